use Rattle.std.proofs.Common.{◌≡◌, ◌∙◌, ◌-◌, ◌≤◌, ℕ, List, ap, codes, drop, length, nat_eq, subst, sym, take, true}
use Rattle.std.proofs.lemmas.List.{take_rest}
use Rattle.std.specs.List.{starts_with}
use Rattle.lsp_shown.proofs.Noting.{after_opening}
use Rattle.lsp_shown.proofs.notes.opens_names.Goals as goal

pub returns-clause-place : goal.returns-clause-place
returns-clause-place c = λ yes.
    let at = c.args.at in
    let text = c.args.text.now in
    let bytes = c.as_bytes.result.now in
    let words = c.as_bytes-2.result.now in
    let opening = codes "-- squawk-ignore " in
    let rest = take (length bytes - at) (drop at bytes) in
    let same : rest ≡ drop at text = take_rest bytes at ∙ ap (λ (b : List ℕ). drop at b) c.as_bytes.ensures.value in
    let bound : length words ≤ length rest = c.starts_with.ensures.bound yes in
    let of_words : length opening ≤ length rest = subst (λ (w : List ℕ). length w ≤ length rest) c.as_bytes-2.ensures.value bound in
    let long : 17 ≤ length (drop at text) = subst (λ (r : List ℕ). 17 ≤ length r) same of_words in
    let begins : true ≡ starts_with nat_eq rest words = sym yes ∙ c.starts_with.ensures.value in
    let begins_so : true ≡ starts_with nat_eq rest opening = subst (λ (w : List ℕ). true ≡ starts_with nat_eq rest w) c.as_bytes-2.ensures.value begins in
    let of_text : true ≡ starts_with nat_eq (drop at text) opening = subst (λ (r : List ℕ). true ≡ starts_with nat_eq r opening) same begins_so in
    after_opening text at c.utf8.text c.requires long of_text
