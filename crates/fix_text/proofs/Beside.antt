-- Fixes beside others.
use Rattle.std.proofs.Common.{◌≡◌, ◌∙◌, ℕ, ◌+◌, ◌<◌, Bool, true, false, cond, List, [], ◌∷◌, ◌++◌, length, get_or, All, refl, sym, ap, subst, Option, Some, None, IfSome}
use Rattle.std.proofs.lemmas.List.{reverse-append, take_more}
use Rattle.std.proofs.lemmas.List.Elements.{All-append, All-cons, All-head, All-nil, All-tail}
use Rattle.std.proofs.lemmas.Option.{slice_get-get_or, slice_get_read}
use Rattle.std.specs.Prelude.{◌&&◌, reverse, slice_get, take}
use Rattle.std.specs.List.{find}
use Rattle.std.specs.Str.{IsCharBoundary}
use Rattle.fix_class.specs.sql_token.Token.{Text}
use Rattle.fix_class.specs.sql_tree.Statement.{Tree}
use Rattle.other_fix.specs.lint_base.declared.settings.LinterSettings.{LinterSettings}
use Rattle.other_fix.specs.lint_base.declared.violation.Violation.{Violation}
use Rattle.other_fix.specs.declared.other.OtherFix.{OtherFix}
use Rattle.law_next_fix.specs.squawk_linter.Placed.{IsPlaced}
use Rattle.fix_class.specs.statement_place.Statements.{number_behind}
use Rattle.fix_text.specs.declared.others.Numbered.{Numbered}
use Rattle.fix_text.specs.Others.{IsNumbered, is_beside, is_made, is_offered, is_same_part, other_by, other_for, others_back, others_of, replaces, with_other}

-- ---- lists from the last element back

all_back : {X : Type 0} (P : X → Type 0) (xs : List X) → All P xs → All P (reverse xs)
all_back P [] all = all
all_back P (x ∷ xs) all =
    subst (All P) (sym (reverse-append (x ∷ []) xs))
    (All-append P (reverse xs) (x ∷ []) (all_back P xs (All-tail P x xs all)) (All-cons P x [] (All-head P x xs all) (All-nil P)))

-- ---- one report more

-- the nearest of the first reports that replaces bytes, by its number
get_nearest : (reports : List Violation) (here last : Numbered) (v : Violation) (before : List Violation) → here.report < length reports → get_or reports here.report v ≡ v
    → slice_get reports last.report ≡ find replaces before → slice_get reports (cond (replaces v) here last).report ≡ find replaces (v ∷ before)
get_nearest reports here last v before lt is so = by (replaces v)
  where
    by : (b : Bool) → slice_get reports (cond b here last).report ≡ cond b (Some v) (find replaces before)
    by true = slice_get-get_or reports here.report v lt ∙ ap (λ (x : Violation). Some x) is
    by false = so

-- the number of the statement of a report
pub numbered_at : (tree : Tree) (reports : List Violation) (n : Numbered) (v : Violation) → n.report < length reports → v ≡ get_or reports n.report v → IsNumbered tree reports n
    → n.statement ≡ number_behind tree v.text_range.start
numbered_at tree reports n v lt is numbered =
    subst (λ (o : Option Violation). IfSome o (λ w. n.statement ≡ number_behind tree w.text_range.start)) (slice_get_read reports (length reports) n.report v refl lt is) numbered

-- the first reports from the last one back, with one more of them
back_more : (reports : List Violation) (i : ℕ) (v : Violation) → i < length reports → v ≡ get_or reports i v → reverse (take (i + 1) reports) ≡ v ∷ reverse (take i reports)
back_more reports i v lt here =
    ap reverse (take_more reports i v lt) ∙ reverse-append (take i reports) (get_or reports i v ∷ []) ∙ ap (λ (x : Violation). x ∷ reverse (take i reports)) (sym here)

module _ (wide : Bool) (settings : LinterSettings) (tree : Tree) where
  abbrev Back : List Violation → List OtherFix
  Back before = others_back wide settings tree before

  pub next_others : (reports : List Violation) (i last : ℕ) (v : Violation) (others more : List OtherFix) (o : Option OtherFix) → i < length reports → v ≡ get_or reports i v
      → o ≡ other_by wide settings tree (slice_get reports last) v → more ≡ others ++ with_other o [] → others ≡ Back (reverse (take i reports))
      → slice_get reports last ≡ find replaces (reverse (take i reports)) → more ≡ Back (reverse (take (i + 1) reports))
  next_others reports i last v others more o lt here is added so nearest =
      let before = reverse (take i reports) in
      let known : o ≡ other_by wide settings tree (find replaces before) v = is ∙ ap (λ (u : Option Violation). other_by wide settings tree u v) nearest in
      added ∙ ap (λ (os : List OtherFix). os ++ with_other o []) so ∙ ap (λ (x : Option OtherFix). Back before ++ with_other x []) known
      ∙ ap Back (sym (back_more reports i v lt here))

  pub next_nearest : (reports : List Violation) (here last next : Numbered) (v : Violation) → here.report < length reports → v ≡ get_or reports here.report v → next ≡ cond (replaces v) here last
      → slice_get reports last.report ≡ find replaces (reverse (take here.report reports)) → slice_get reports next.report ≡ find replaces (reverse (take (here.report + 1) reports))
  next_nearest reports here last next v lt is kept nearest =
      ap (λ (n : Numbered). slice_get reports n.report) kept ∙ get_nearest reports here last v (reverse (take here.report reports)) lt (sym is) nearest
      ∙ ap (find replaces) (sym (back_more reports here.report v lt is))

  pub next_numbered : (reports : List Violation) (here last next : Numbered) (v : Violation) → here.report < length reports → v ≡ get_or reports here.report v
      → here.statement ≡ number_behind tree v.text_range.start → IsNumbered tree reports last → next ≡ cond (replaces v) here last → IsNumbered tree reports next
  next_numbered reports here last next v lt is place before kept = subst (IsNumbered tree reports) (sym kept) (by (replaces v))
    where
      by : (b : Bool) → IsNumbered tree reports (cond b here last)
      by true = subst (λ (o : Option Violation). IfSome o (λ w. here.statement ≡ number_behind tree w.text_range.start)) (sym (slice_get_read reports (length reports) here.report v refl lt is)) place
      by false = before

  -- ---- two reports

  pub beside_made : (u v : Violation) (same offered is : Bool) → same ≡ true → offered ≡ true → same ≡ is_same_part u v → offered ≡ is_offered settings tree v
      → is ≡ is_made wide settings tree u → is ≡ is_beside wide settings tree u v
  beside_made u v same offered is p q s o m =
      let a : is_same_part u v ≡ true = sym s ∙ p in
      let b : is_offered settings tree v ≡ true = sym o ∙ q in
      m ∙ sym (ap (λ (x : Bool). (x && is_offered settings tree v) && is_made wide settings tree u) a ∙ ap (λ (y : Bool). y && is_made wide settings tree u) b)

  -- ---- places

  abbrev IsBetween : Text → OtherFix → Type 0
  IsBetween text other = IsCharBoundary text other.at

  with_placed : (text : Text) (u : Option Violation) (v : Violation) (rest : List OtherFix) → IsPlaced text v → All (IsBetween text) rest
      → All (IsBetween text) (with_other (other_by wide settings tree u v) rest)
  with_placed text None v rest here after = after
  with_placed text (Some u) v rest here after = by (is_beside wide settings tree u v)
    where
      by : (b : Bool) → All (IsBetween text) (with_other (cond b (Some (other_for u v)) None) rest)
      by true = All-cons (IsBetween text) (other_for u v) rest here.range.start after
      by false = after

  back_placed : (text : Text) (vs : List Violation) → All (IsPlaced text) vs → All (IsBetween text) (Back vs)
  back_placed text [] placed = All-nil (IsBetween text)
  back_placed text (v ∷ before) placed =
      All-append (IsBetween text) (Back before) _ (back_placed text before (All-tail (IsPlaced text) v before placed))
      (with_placed text (find replaces before) v [] (All-head (IsPlaced text) v before placed) (All-nil (IsBetween text)))

  pub others_placed : (text : Text) (vs : List Violation) → All (IsPlaced text) vs → All (IsBetween text) (others_of wide settings tree vs)
  others_placed text vs placed = back_placed text (reverse vs) (all_back (IsPlaced text) vs placed)
