-- What a name holds after one file more.
use Rattle.std.proofs.Common.{◌≡◌, ℕ, true, List, [], ◌∷◌, ◌++◌, refl, sym, ap, ◌∙◌, subst, if◌then◌else◌}
use Rattle.std.specs.Prelude.{bytes_eq}
use Rattle.std.proofs.lemmas.Slice.Eq.{bytes_eq-Decides}
use Rattle.devices.specs.Contents.{Content, File, Missing}
use Rattle.devices.specs.Held.{held, held_after}
use Rattle.devices.specs.Writes.{Writes}

held_more : (before : Content) (files : List (List ℕ × List ℕ)) (file : List ℕ × List ℕ) (name : List ℕ)
    → held_after before (files ++ file ∷ []) name ≡ (if bytes_eq file.0 name then File file.1 else held_after before files name)
held_more before [] file name = refl
held_more before (x ∷ xs) file name = held_more (if bytes_eq x.0 name then File x.1 else before) xs file name

pub one_more : (files : List (List ℕ × List ℕ)) (name bytes : List ℕ)
    → Writes (held files) (held (files ++ (name, bytes) ∷ [])) name bytes
one_more files name bytes =
    let same : bytes_eq name name ≡ true = (bytes_eq-Decides name name).1 refl in
    record {
      here = rw (held_more Missing files (name, bytes) name, same) refl;
      others = λ other apart. rw (held_more Missing files (name, bytes) other, apart) refl;
    }

-- the same, step by step
pub wrote : (old middle new : List (List ℕ × List ℕ)) (name bytes : List ℕ) → middle ≡ old → new ≡ middle ++ (name, bytes) ∷ []
    → Writes (held old) (held new) name bytes
wrote old middle new name bytes same more =
    subst (λ (files : List (List ℕ × List ℕ)). Writes (held old) (held files) name bytes) (sym (more ∙ ap (λ (files : List (List ℕ × List ℕ)). files ++ (name, bytes) ∷ []) same))
    (one_more old name bytes)
