-- How lists grow by parts of tables, and what holds at an error or at none.
use Rattle.std.specs.Prelude.{◌≡◌, List, [], ◌++◌, refl, Result, Ok, Err, OnOk, OnErr}
use Rattle.std.proofs.Common.{sym, ◌∙◌, ap, append_assoc}
use Rattle.std.proofs.lemmas.List.{append-nil}
use Rattle.lint_base.specs.Grown.{GrownBy}

-- nothing was added
pub grown_by_none : {A : Type 0} (old new table : List A) → new ≡ old → GrownBy old new table
grown_by_none old new table e = record { added = []; left = table; grown = e ∙ sym (append-nil old); front = refl }

-- all was added
pub grown_by_all : {A : Type 0} (old new table : List A) → new ≡ old ++ table → GrownBy old new table
grown_by_all old new table e = record { added = table; left = []; grown = e; front = sym (append-nil table) }

-- a prefix of the first table is a prefix of both
pub grown_by_first : {A : Type 0} (old new a b : List A) → GrownBy old new a → GrownBy old new (a ++ b)
grown_by_first old new a b h =
    record { added = h.added; left = h.left ++ b; grown = h.grown; front = ap (λ xs. xs ++ b) h.front ∙ append_assoc h.added h.left b }

-- the first table whole, and then a prefix of the second
pub grown_by_second : {A : Type 0} (old mid new a b : List A) → mid ≡ old ++ a → GrownBy mid new b → GrownBy old new (a ++ b)
grown_by_second old mid new a b e h =
    record {
      added = a ++ h.added;
      left = h.left;
      grown = h.grown ∙ (ap (λ xs. xs ++ h.added) e ∙ append_assoc old a h.added);
      front = ap (λ xs. a ++ xs) h.front ∙ sym (append_assoc a h.added h.left);
    }

-- a fact holds at an error too
pub at_err : {T E P : Type 0} (r : Result T E) → P → OnErr r P
at_err (Ok x) h = tt
at_err (Err e) h = h

pub at_ok : {T E P : Type 0} (r : Result T E) → P → OnOk r P
at_ok (Ok x) h = h
at_ok (Err e) h = tt

-- a fact at an error, and what follows from it
pub err_then : {T E P Q : Type 0} (r : Result T E) → (P → Q) → OnErr r P → OnErr r Q
err_then (Ok x) f h = tt
err_then (Err e) f h = f h
