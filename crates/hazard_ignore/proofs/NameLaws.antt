-- Which reports of the linter are of names of hazards.
use Rattle.std.proofs.Common.{◌≡◌, ◌∙◌, refl, sym, ap, ℕ, Bool, true, false, List, [], ◌∷◌, ◌++◌, drop, find, Option, Some, None, cond}
use Rattle.std.specs.Prelude.{codes}
use Rattle.std.specs.Str.{bytes_eq}
use Rattle.std.proofs.lemmas.List.{same_from_push}
use Rattle.std.proofs.lemmas.Slice.Eq.{bytes_eq-Decides}
use Rattle.lint_base.specs.RuleNames.{same_rule}
use Rattle.lint_ignore.specs.Names.{unknown_message}
use Rattle.hazard_base.specs.declared.hazard.Hazard.{Hazard}
use Rattle.hazard_base.specs.Hazards.{all_hazards, hazard_named, is_named, name_of}
use Rattle.hazard_ignore.specs.HazardNames.{hazard_of, is_unknown}
use Rattle.hazard_ignore.specs.Laws.{UnknownNamesAreTold, UnusedNamesStay}

both_ways : (a b : Bool) → (a ≡ true → b ≡ true) → (b ≡ true → a ≡ true) → a ≡ b
both_ways true b f g = sym (f refl)
both_ways false true f g = g refl
both_ways false false f g = refl

find_same : {X : Type 0} (p q : X → Bool) (xs : List X) → ((x : X) → p x ≡ q x) → find p xs ≡ find q xs
find_same p q [] h = refl
find_same p q (x ∷ xs) h = λ i. cond (h x i) (Some x) (find_same p q xs h i)

-- two messages of unknown names are equal where the names are
same_names : (a b : List ℕ) → unknown_message a ≡ unknown_message b → a ≡ b
same_names a b e = (same_from_push a b 96 96 (ap (drop 14) e)).0

told : (name : List ℕ) (h : Hazard) → is_unknown (unknown_message name) h ≡ is_named name h
unfolding is_unknown
told name h =
    both_ways (is_unknown (unknown_message name) h) (is_named name h)
    (λ e. (bytes_eq-Decides (name_of h) name).1 (sym (same_names name (name_of h) ((bytes_eq-Decides (unknown_message name) (unknown_message (name_of h))).0 e))))
    (λ e. (bytes_eq-Decides (unknown_message name) (unknown_message (name_of h))).1 (ap unknown_message (sym ((bytes_eq-Decides (name_of h) name).0 e))))

pub unknown_names_are_told : UnknownNamesAreTold
unfolding hazard_of hazard_named same_rule
unknown_names_are_told name range = find_same (is_unknown (unknown_message name)) (is_named name) all_hazards (told name)

pub unused_names_stay : UnusedNamesStay
unfolding hazard_of all_hazards is_unknown name_of same_rule
unused_names_stay text piece = refl
