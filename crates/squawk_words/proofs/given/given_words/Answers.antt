use Rattle.std.proofs.Common.{rules, refl, ◌≡◌, ◌∙◌, subst, true, false, map, string_bytes, [], inl, inr}
use Rattle.std.specs.List.{list_all}
use Rattle.std.proofs.lemmas.List.Folds.{list_all-map}
use Rattle.clap.specs.Words.{app_of, HasKind, fault_of, found_of, is_simple, is_simple_and_free, matches_of, rows_of}
use Rattle.squawk_words.specs.Command.{app, is_tidy, said_by}
use Rattle.squawk_words.proofs.Ends.{is_free, is_plain, refused_words, taken_words, untidy_none}
use Rattle.squawk_words.proofs.given.given_words.Goals as goal

pub returns-then-not-all_tidy : goal.returns-then-not-all_tidy
returns-then-not-all_tidy c =
    let ws = map string_bytes c.args.words.now in
    let untidy : list_all is_tidy ws ≡ false = list_all-map is_tidy string_bytes c.args.words.now ∙ search rules in
    rw (untidy_none ws untidy) refl

pub returns-in-Ok : goal.returns-in-Ok
returns-in-Ok c =
    let ws = map string_bytes c.args.words.now in
    let tidy : list_all is_tidy ws ≡ true = list_all-map is_tidy string_bytes c.args.words.now ∙ search rules in
    let app_is : app_of c.in_ok-command.command ≡ app = c.in_ok-command.ensures in
    let none : fault_of app ws ≡ [] = subst (λ a. is_simple_and_free a ≡ true → fault_of a ws ≡ []) app_is c.in-Ok.ensures.kinds is_free in
    let rows : rows_of (found_of c.in-Ok.matches) ≡ matches_of app ws = subst (λ a. is_simple a ≡ true → rows_of (found_of c.in-Ok.matches) ≡ matches_of a ws) app_is (λ s. (c.in-Ok.ensures.matches s).0) is_plain in
    taken_words ws (found_of c.in-Ok.matches) (said_by c.given_of.result) tidy none rows c.given_of.ensures

pub returns : goal.returns
returns c =
    let ws = map string_bytes c.args.words.now in
    let tidy : list_all is_tidy ws ≡ true = list_all-map is_tidy string_bytes c.args.words.now ∙ search rules in
    let app_is : app_of c.in_ok-command.command ≡ app = c.in_ok-command.ensures in
    let fails : HasKind (fault_of app ws) c.in-Err.error = subst (λ a. is_simple_and_free a ≡ true → HasKind (fault_of a ws) c.in-Err.error) app_is c.in-Err.ensures.kinds is_free in
    let faulty : fault_of app ws ≡ [] → ⊥ = λ e. elim (subst (λ k. HasKind k c.in-Err.error) e fails) [ inl m ↦ c.in_default.not-OutOfMemory (c.kind.ensures ∙ m) | inr n ↦ n ] in
    rw (refused_words ws tidy faulty) refl
