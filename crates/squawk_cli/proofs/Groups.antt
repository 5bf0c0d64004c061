-- Words ask for 100000 made groups at most.
use Rattle.std.proofs.Common.{◌≡◌, ◌≤◌, ℕ, List, Bool, true, false, Option, Some, None, IfSome, subst, sym, arith, if◌then◌else◌}
use Rattle.std.specs.Prelude.{nat_le, option_map, option_and_then}
use Rattle.std.specs.Str.Parse.{digits_value}
use Rattle.std.proofs.lemmas.Bool.{and_parts}
use Rattle.squawk_run.specs.squawk_words.Choices.{Said, choices_by, choices_of, groups, groups_by, is_numeral, names_by, rules_by, said_of, version_by}
use Rattle.squawk_run.specs.squawk_words.Words.{Text}
use Rattle.squawk_cli.specs.declared.config.Config.{Config}
use Rattle.squawk_cli.specs.Config.{config_by, config_of}

abbrev pub AreFew : Option ℕ → Type 0
AreFew generate = IfSome generate (λ n. n ≤ 100000)

and_then : {A B : Type 0} (f : A → Option B) (o : Option A) (P : A → Type 0) (Q : B → Type 0) → IfSome o P → ((x : A) → P x → IfSome (f x) Q) → IfSome (option_and_then f o) Q
and_then f None P Q h k = tt
and_then f (Some x) P Q h k = k x h

and_then_any : {A B : Type 0} (f : A → Option B) (o : Option A) (Q : B → Type 0) → ((x : A) → IfSome (f x) Q) → IfSome (option_and_then f o) Q
and_then_any f None Q k = tt
and_then_any f (Some x) Q k = k x

mapped : {A B : Type 0} (f : A → B) (o : Option A) (Q : B → Type 0) → IfSome o (λ x. Q (f x)) → IfSome (option_map f o) Q
mapped f None Q h = tt
mapped f (Some x) Q h = h

mapped_any : {A B : Type 0} (f : A → B) (o : Option A) (Q : B → Type 0) → ((x : A) → Q (f x)) → IfSome (option_map f o) Q
mapped_any f None Q h = tt
mapped_any f (Some x) Q h = h x

where_true : (test : Bool) (n : ℕ) → (test ≡ true → n ≤ 100000) → AreFew (if test then Some n else None)
where_true true n h = h cc
where_true false n h = tt

few_read : (text : Text) → AreFew (groups text)
few_read text =
    where_true _ (digits_value 10 text) (λ e. let small : nat_le (digits_value 10 text) 100000 ≡ true = (and_parts (is_numeral text) _ e).1 in grind arith)

few_given : (locks : Bool) (text : Option Text) → IfSome (groups_by locks text) AreFew
few_given locks None = tt
few_given true (Some text) = tt
few_given false (Some text) = mapped _ (groups text) AreFew (few_read text)

few_chosen : (said : Said) → IfSome (choices_by said) (λ c. AreFew c.generate)
few_chosen said =
    and_then_any _ (version_by said.pg_major said.pg_minor said.pg_patch) _ (λ version.
    and_then _ (groups_by said.locks said.generate) AreFew _ (few_given said.locks said.generate) (λ generate few.
    and_then_any _ (names_by said.non_volatile) _ (λ names.
    mapped_any _ (rules_by said.only said.include said.exclude) _ (λ rules. few))))

pub few_named : (words : List Text) → IfSome (config_of words) (λ c. AreFew c.generate)
few_named words = mapped config_by (choices_of words) (λ c. AreFew c.generate) (and_then_any choices_by (said_of words) (λ c. AreFew c.generate) few_chosen)

-- so the configuration that they name has
pub few_in : (words : List Text) (config : Config) → Some config ≡ config_of words → AreFew config.generate
few_in words config named = subst (λ o. IfSome o (λ (c : Config). AreFew c.generate)) (sym named) (few_named words)
