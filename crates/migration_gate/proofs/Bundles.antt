-- A text is a bundle in one way.
use Rattle.std.proofs.Common.{◌≡◌, ◌∙◌, ◌<◌, ◌≤◌, ◌^◌, ℕ, List, [], ◌∷◌, ◌++◌, length, length-append, refl, ap, sym, subst, arith, append_assoc, append-nil, true, false, ◌-◌}
use Rattle.std.proofs.lemmas.Bool.{eqb-true}
use Rattle.std.specs.Prelude.{All, flat_map, ◌==◌}
use Rattle.std.proofs.lemmas.List.{flat_map_more, length-map}
use Rattle.std.proofs.lemmas.List.Elements.{All-cons, All-head, All-nil, All-push, All-tail}
use Rattle.migration_gate.specs.declared.file.GateFile.{GateFile}
use Rattle.migration_gate.specs.Bundle.{BeginsNoEntry, Entry, IsBadAt, IsBundle, IsEntry, entries_of, entry_bytes, entry_of}
use Rattle.migration_gate.specs.BundleLaws.{NeverBundleAndBad, OneBadPlace, OneReading}
use Rattle.migration_gate.proofs.Entries.{fits, one_entry}

pub nothing_begins_none : BeginsNoEntry []
nothing_begins_none e rest h = λ same. cc

shorter : (e : Entry) (rest : List ℕ) (n : ℕ) → length (entry_bytes e ++ rest) < n → length rest < n
shorter e rest n h = let l = length-append (entry_bytes e) rest in omega (arith, h, l)

-- some entries and what is left behind them, which begins with none
pub one_stop : (a b : List Entry) (x y : List ℕ) → All IsEntry a → All IsEntry b → BeginsNoEntry x → BeginsNoEntry y → length (flat_map entry_bytes a ++ x) < 2 ^ 64
    → flat_map entry_bytes a ++ x ≡ flat_map entry_bytes b ++ y → (a ≡ b) × (x ≡ y)
one_stop [] [] x y ha hb nx ny l e = (refl, e)
one_stop [] (f ∷ fs) x y ha hb nx ny l e =
    absurd (nx f (flat_map entry_bytes fs ++ y) (All-head IsEntry f fs hb) (e ∙ append_assoc (entry_bytes f) (flat_map entry_bytes fs) y))
one_stop (g ∷ gs) [] x y ha hb nx ny l e =
    absurd (ny g (flat_map entry_bytes gs ++ x) (All-head IsEntry g gs ha) (sym e ∙ append_assoc (entry_bytes g) (flat_map entry_bytes gs) x))
one_stop (g ∷ gs) (f ∷ fs) x y ha hb nx ny l e =
    let r = flat_map entry_bytes gs ++ x in
    let s = flat_map entry_bytes fs ++ y in
    let apart = append_assoc (entry_bytes g) (flat_map entry_bytes gs) x in
    let short : length (entry_bytes g ++ r) < 2 ^ 64 = subst (λ t. length t < 2 ^ 64) apart l in
    let first = one_entry g f r s (All-head IsEntry g gs ha) (All-head IsEntry f fs hb) short (sym apart ∙ e ∙ append_assoc (entry_bytes f) (flat_map entry_bytes fs) y) in
    let others = one_stop gs fs x y (All-tail IsEntry g gs ha) (All-tail IsEntry f fs hb) nx ny (shorter g r (2 ^ 64) short) first.1 in
    (λ i. first.0 i ∷ others.0 i, others.1)

short_for : (a t : List ℕ) → t ≡ a → length t < 2 ^ 32 → length a < 2 ^ 64
short_for a t e l = let same = ap length e in omega (arith, l, same)

whole : (t : List ℕ) (a : List Entry) → IsBundle t a → t ≡ flat_map entry_bytes a ++ []
whole t a h = h.is ∙ sym (append-nil (flat_map entry_bytes a))

pub one_reading : OneReading
one_reading t a b l ha hb =
    let e = whole t a ha in
    (one_stop a b [] [] ha.each hb.each nothing_begins_none nothing_begins_none (short_for _ t e l) (sym e ∙ whole t b hb)).0

pub one_bad_place : OneBadPlace
one_bad_place t a b l ha hb =
    let k = one_stop ha.before hb.before ha.left hb.left ha.each hb.each ha.no_entry hb.no_entry (short_for _ t ha.is l) (sym ha.is ∙ hb.is) in
    ha.place ∙ ap (λ es. length (flat_map entry_bytes es)) k.0 ∙ sym hb.place

pub never_both : NeverBundleAndBad
never_both t entries at l h bad =
    let e = whole t entries h in
    let k = one_stop entries bad.before [] bad.left h.each bad.each nothing_begins_none bad.no_entry (short_for _ t e l) (sym e ∙ bad.is) in
    let none = ap length k.1 in
    let some = bad.some in
    omega (arith, none, some)

-- ---- reading on

flat_map_last : (es : List Entry) (e : Entry) → flat_map entry_bytes es ++ entry_bytes e ≡ flat_map entry_bytes (es ++ e ∷ [])
flat_map_last es e = flat_map_more entry_bytes [] es e

not_empty : (e : Entry) → 0 < length (entry_bytes e)
not_empty e = omega arith

some_left : (r : List ℕ) → (length r == 0) ≡ false → 0 < length r
some_left [] e = absurd cc
some_left (x ∷ xs) e = omega arith

none_left : (r : List ℕ) → (length r == 0) ≡ true → r ≡ []
none_left [] e = refl
none_left (x ∷ xs) e = let none = eqb-true (length (x ∷ xs)) 0 e in absurd (omega (arith, none))

pub nothing_before : (t : List ℕ) (files : List GateFile) → files ≡ [] → All IsEntry (entries_of files) × (t ≡ flat_map entry_bytes (entries_of files) ++ t)
nothing_before t [] e = (All-nil IsEntry, refl)
nothing_before t (f ∷ fs) e = absurd cc

entries_more : (files : List GateFile) (f : GateFile) → entries_of (files ++ f ∷ []) ≡ entries_of files ++ entry_of f ∷ []
entries_more [] f = refl
entries_more (g ∷ gs) f = ap (λ es. entry_of g ∷ es) (entries_more gs f)

pub one_more : (t r more : List ℕ) (files new : List GateFile) (f : GateFile) → new ≡ files ++ f ∷ [] → All IsEntry (entries_of files) → t ≡ flat_map entry_bytes (entries_of files) ++ r
    → IsEntry (entry_of f) → r ≡ entry_bytes (entry_of f) ++ more
    → All IsEntry (entries_of new) × (t ≡ flat_map entry_bytes (entries_of new) ++ more)
one_more t r more files new f is each all here rest =
    let e = ap entries_of is ∙ entries_more files f in
    let P : List Entry → Type 0 = λ es. All IsEntry es × (t ≡ flat_map entry_bytes es ++ more) in
    let before = flat_map entry_bytes (entries_of files) in
    subst P (sym e) (
      All-push IsEntry (entries_of files) (entry_of f) each here,
      all ∙ ap (λ x. before ++ x) rest ∙ sym (append_assoc before (entry_bytes (entry_of f)) more) ∙ ap (λ x. x ++ more) (flat_map_last (entries_of files) (entry_of f)),
    )

pub less_left : (e : Entry) (r more : List ℕ) → r ≡ entry_bytes e ++ more → length more < length r
less_left e r more same =
    let all = ap length same in
    let parts = length-append (entry_bytes e) more in
    let some = not_empty e in
    omega (arith, all, parts, some)

pub no_longer : (a t r : List ℕ) → t ≡ a ++ r → length r ≤ length t
no_longer a t r e = let all = ap length e in let parts = length-append a r in omega (arith, all, parts)

pub bad_at : (t r : List ℕ) (es : List Entry) → All IsEntry es → t ≡ flat_map entry_bytes es ++ r → (length r == 0) ≡ false → BeginsNoEntry r → IsBadAt t (length t - length r)
bad_at t r es each all some none =
    let sum = ap length all in
    let parts = length-append (flat_map entry_bytes es) r in
    record {
      before = es;
      left = r;
      each = each;
      is = all;
      place = omega (arith, sum, parts);
      some = some_left r some;
      no_entry = none;
    }

pub all_read : (t r : List ℕ) (es : List Entry) → All IsEntry es → t ≡ flat_map entry_bytes es ++ r → (length r == 0) ≡ true → IsBundle t es
all_read t r es each all none = record { each = each; is = all ∙ ap (λ x. flat_map entry_bytes es ++ x) (none_left r none) ∙ append-nil (flat_map entry_bytes es) }

-- ---- how much there is

pub count_le : (es : List Entry) → length es ≤ length (flat_map entry_bytes es)
count_le [] = omega arith
count_le (e ∷ es) =
    let parts = length-append (entry_bytes e) (flat_map entry_bytes es) in
    let some = not_empty e in
    let rest = count_le es in
    omega (arith, parts, some, rest)

pub each_short : (es : List Entry) (n : ℕ) → length (flat_map entry_bytes es) < n → All (λ e. length e.text < n) es
each_short [] n h = All-nil (λ e. length e.text < n)
each_short (e ∷ es) n h =
    All-cons (λ e. length e.text < n) e es (fits e (flat_map entry_bytes es) n h) (each_short es n (shorter e (flat_map entry_bytes es) n h))

pub few_files : (t : List ℕ) (files : List GateFile) → length t < 2 ^ 32 → IsBundle t (entries_of files) → length files < 2 ^ 32
few_files t files l h =
    let all = ap length h.is in
    let count = count_le (entries_of files) in
    let same = length-map files entry_of in
    omega (arith, l, all, count, same)

pub short_texts : (t : List ℕ) (es : List Entry) → length t < 2 ^ 32 → IsBundle t es → All (λ e. length e.text < 2 ^ 32) es
short_texts t es l h = each_short es (2 ^ 32) (subst (λ x. length x < 2 ^ 32) h.is l)
