-- Writings in pieces, joined.
use Rattle.std.proofs.Common.{◌≡◌, ℕ, ◌+◌, ◌<◌, List, [], ◌++◌, length, drop, get_or, codes, decimal, Result, Ok, Err, OnOk, sym, ap, subst, ◌∙◌, append_assoc}
use Rattle.std.specs.declared.option.Option.{Option}
use Rattle.std.proofs.lemmas.List.{at_drop_more}
use Rattle.std.specs.Io.KnownBytes.{Appends}
use Rattle.std.proofs.KnownBytes.{Appends-nil, Appends-trans}
use Rattle.devices.specs.Parts.{AppendsPart}
use Rattle.devices.proofs.PartLaws.{part_after, part_more}
use Rattle.lint_base.specs.declared.violation.Violation.{Violation}
use Rattle.squawk_print.specs.Printed.{printed_violation, printed_each, printed}
use Rattle.squawk_print.specs.Written.{AppendsBut, last_line}

-- what is kept is the rest
pub part_but : (a b : Option (List ℕ)) (kept bs : List ℕ) → AppendsBut a b kept bs → AppendsPart a b bs
part_but a b kept bs p = record { put = p.put; rest = kept; is = p.is; appended = p.appended }

-- no write
pub but_none : (a : Option (List ℕ)) (bs : List ℕ) → AppendsBut a a bs bs
but_none a bs = record { put = []; is = cc; appended = Appends-nil a }

-- more after what is kept
pub but_more : (a b : Option (List ℕ)) (kept bs xs : List ℕ) → AppendsBut a b kept bs → AppendsBut a b (kept ++ xs) (bs ++ xs)
but_more a b kept bs xs p = record {
  put = p.put;
  is = sym (append_assoc p.put kept xs) ∙ ap (λ l. l ++ xs) p.is;
  appended = p.appended;
}

-- a second writing, of what the first kept
pub but_after : (a b c : Option (List ℕ)) (rest kept bs : List ℕ) → AppendsBut a b kept bs → AppendsBut b c rest kept → AppendsBut a c rest bs
but_after a b c rest kept bs p q = record {
  put = p.put ++ q.put;
  is = append_assoc p.put q.put rest ∙ ap (λ l. p.put ++ l) q.is ∙ p.is;
  appended = Appends-trans a b c p.put q.put p.appended q.appended;
}

-- a second writing, of a part of what the first kept
pub part_after_but : (a b c : Option (List ℕ)) (kept bs : List ℕ) → AppendsBut a b kept bs → AppendsPart b c kept → AppendsPart a c bs
part_after_but a b c kept bs p q = subst (AppendsPart a c) p.is (part_after a b c p.put kept p.appended q)

-- a second writing, of all that the first kept
pub all_after_but : {T E : Type 0} (r : Result T E) (a b c : Option (List ℕ)) (kept bs : List ℕ)
    → AppendsBut a b kept bs → OnOk r (Appends b c kept) → OnOk r (Appends a c bs)
all_after_but (Ok x) a b c kept bs p q = subst (Appends a c) p.is (Appends-trans a b c p.put kept p.appended q)
all_after_but (Err e) a b c kept bs p q = tt

-- a report after what is kept, and then those after it
each_from : (vs : List Violation) (i : ℕ) (v : Violation) (kept : List ℕ) → i < length vs → v ≡ get_or vs i v
    → (kept ++ printed_violation v) ++ printed_each (drop (i + 1) vs) ≡ kept ++ printed_each (drop i vs)
each_from vs i v kept h e =
    let here = at_drop_more printed_each vs i v h in
    let same : printed_violation v ++ printed_each (drop (i + 1) vs) ≡ printed_each (drop i vs) = ap (λ w. printed_violation w ++ printed_each (drop (i + 1) vs)) e ∙ sym here in
    append_assoc kept (printed_violation v) (printed_each (drop (i + 1) vs)) ∙ ap (λ l. kept ++ l) same

pub each_step : (a b c : Option (List ℕ)) (vs : List Violation) (i : ℕ) (v : Violation) (kept next all : List ℕ)
    → i < length vs → v ≡ get_or vs i v → AppendsBut a b (kept ++ printed_each (drop i vs)) all
    → AppendsBut b c next (kept ++ printed_violation v) → AppendsBut a c (next ++ printed_each (drop (i + 1) vs)) all
each_step a b c vs i v kept next all h e p q =
    let more = but_more b c next (kept ++ printed_violation v) (printed_each (drop (i + 1) vs)) q in
    but_after a b c _ _ all p (subst (AppendsBut b c _) (each_from vs i v kept h e) more)

pub each_stop : (a b c : Option (List ℕ)) (vs : List Violation) (i : ℕ) (v : Violation) (kept all : List ℕ)
    → i < length vs → v ≡ get_or vs i v → AppendsBut a b (kept ++ printed_each (drop i vs)) all
    → AppendsPart b c (kept ++ printed_violation v) → AppendsPart a c all
each_stop a b c vs i v kept all h e p q =
    let more = part_more b c (kept ++ printed_violation v) (printed_each (drop (i + 1) vs)) q in
    part_after_but a b c _ all p (subst (AppendsPart b c) (each_from vs i v kept h e) more)

pub count_regrouped : (a b c d : List ℕ) → ((a ++ b) ++ c) ++ d ≡ a ++ ((b ++ c) ++ d)
count_regrouped a b c d = simp append_assoc

-- the reports and the last line are all
pub printed_is : (none : List ℕ) (vs : List Violation) → none ≡ [] → (none ++ printed_each vs) ++ last_line (length vs) ≡ printed vs
unfolding printed last_line
printed_is none vs e = ap (λ l. (l ++ printed_each vs) ++ last_line (length vs)) e ∙ sym (count_regrouped (printed_each vs) (codes "violations: ") (decimal (length vs)) (codes "\n"))
