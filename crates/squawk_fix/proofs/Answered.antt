-- From a text that was fixed and written to what is known of an input.
use Rattle.std.proofs.Common.{◌≡◌, ◌<◌, ◌^◌, ℕ, List, length, None, Option, Some, IfSome, refl}
use Rattle.std.specs.Str.{IsUtf8}
use Rattle.law_next_fix.specs.squawk_linter.declared.linter.Linter.{Linter}
use Rattle.squawk_run.specs.declared.status.Status.{Status}
use Rattle.squawk_run.specs.declared.status.Status.TheVariants.{Clean, Found, BadArguments, NotUtf8, TooLong, Unterminated, Syntax, ReadFault, WriteFault, NoMemory}
use Rattle.squawk_fix.specs.Chosen.{linter_of}
use Rattle.squawk_fix.specs.Fixing.{FixedValue}
use Rattle.squawk_fix.specs.Outcome.{AnsweredAs, AnsweredFor, IsFixedBy, Writes, WroteAs}

-- a fixed text that was written
pub written : (s : Status) (linter : Linter) (t : List ℕ) (fixed : FixedValue) (old new : Option (List ℕ)) → IsUtf8 t → IsFixedBy linter t fixed → WroteAs s fixed old new →
    AnsweredAs s linter t old new (λ n. n ≡ fixed.applied)
written Clean linter t fixed old new text is wrote = (text, record { fixed = fixed; is = is; status_is = wrote.0; appended = wrote.1; counted = refl })
written Found linter t fixed old new text is wrote = (text, record { fixed = fixed; is = is; status_is = wrote.0; appended = wrote.1; counted = refl })
written WriteFault linter t fixed old new text is wrote = (text, record { fixed = fixed; is = is; appended = wrote })
written NoMemory linter t fixed old new text is wrote = absurd wrote
written BadArguments linter t fixed old new text is wrote = absurd wrote
written NotUtf8 linter t fixed old new text is wrote = absurd wrote
written TooLong linter t fixed old new text is wrote = absurd wrote
written (Unterminated at) linter t fixed old new text is wrote = absurd wrote
written (Syntax at) linter t fixed old new text is wrote = absurd wrote
written ReadFault linter t fixed old new text is wrote = absurd wrote

-- the same of the linter that the words name
pub named : (s : Status) (words : List (List ℕ)) (linter : Linter) (t : List ℕ) (old new : Option (List ℕ)) (P : ℕ → Type 0) → linter_of words ≡ Some linter → length t < 2 ^ 32 →
    AnsweredAs s linter t old new P → AnsweredFor s words t old new P
named Clean words linter t old new P name short h = record { linter = linter; named = name; holds = h }
named Found words linter t old new P name short h = record { linter = linter; named = name; holds = h }
named WriteFault words linter t old new P name short h = record { linter = linter; named = name; holds = h }
named NotUtf8 words linter t old new P name short h = (short, h)
named (Unterminated at) words linter t old new P name short h = (short, h.0, h.1)
named (Syntax at) words linter t old new P name short h = h
named BadArguments words linter t old new P name short h = tt
named TooLong words linter t old new P name short h = tt
named ReadFault words linter t old new P name short h = tt
named NoMemory words linter t old new P name short h = tt

-- ---- what is known of the count

module _ (P Q : ℕ → Type 0) (weaker : (n : ℕ) → P n → Q n) where
  writes_weaker : (s : Status) (linter : Linter) (t : List ℕ) (old new : Option (List ℕ)) → Writes s linter t old new P → Writes s linter t old new Q
  writes_weaker s linter t old new w =
      record { fixed = w.fixed; is = w.is; status_is = w.status_is; appended = w.appended; counted = weaker w.fixed.applied w.counted }

  for_weaker : (s : Status) (words : List (List ℕ)) (t : List ℕ) (old new : Option (List ℕ)) → AnsweredFor s words t old new P → AnsweredFor s words t old new Q
  for_weaker Clean words t old new a = record { linter = a.linter; named = a.named; holds = (a.holds.0, writes_weaker Clean a.linter t old new a.holds.1) }
  for_weaker Found words t old new a = record { linter = a.linter; named = a.named; holds = (a.holds.0, writes_weaker Found a.linter t old new a.holds.1) }
  for_weaker WriteFault words t old new a = record { linter = a.linter; named = a.named; holds = a.holds }
  for_weaker NotUtf8 words t old new a = a
  for_weaker (Unterminated at) words t old new a = a
  for_weaker (Syntax at) words t old new a = a
  for_weaker BadArguments words t old new a = tt
  for_weaker TooLong words t old new a = tt
  for_weaker ReadFault words t old new a = tt
  for_weaker NoMemory words t old new a = tt

  pub answered_weaker : (s : Status) (words : List (List ℕ)) (source : Option (List ℕ)) (old new : Option (List ℕ)) → IfSome source (λ t. AnsweredFor s words t old new P) →
      IfSome source (λ t. AnsweredFor s words t old new Q)
  answered_weaker s words None old new a = tt
  answered_weaker s words (Some t) old new a = for_weaker s words t old new a
