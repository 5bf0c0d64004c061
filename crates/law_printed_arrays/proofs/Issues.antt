-- From an issue of GitLab back to what its format keeps of a finding.
use Rattle.std.proofs.Common.{◌≡◌, ◌∙◌, ℕ, List, ap}
use Rattle.std.proofs.lemmas.Fmt.{decimal_injective}
use Rattle.serde_json.specs.Data.{object}
use Rattle.law_printed_arrays.specs.Kept.{KeptIssue, kept_issue}
use Rattle.law_printed_arrays.proofs.Fields.{at, text_in}
use Rattle.law_printed_arrays.proofs.Placed.{IsPlaced}
use Rattle.law_printed_lines.proofs.Places.{line_short}
use Rattle.law_printed_arrays.proofs.Shapes.{LeadsBack}
use Rattle.law_printed_arrays.proofs.Values.{issue_of, members_by}

abbrev as_issue : List ℕ → ℕ → List ℕ → List ℕ → List ℕ → KeptIssue
as_issue name line severity rule message = record { name = name; line = line; severity = severity; rule = rule; message = message }

same_issue : (n n' : List ℕ) (l l' : ℕ) (s s' r r' m m' : List ℕ) → n ≡ n' → l ≡ l' → s ≡ s' → r ≡ r' → m ≡ m' → as_issue n l s r m ≡ as_issue n' l' s' r' m'
same_issue n n' l l' s s' r r' m m' a b d e f =
    ap (λ t. as_issue t l s r m) a ∙ ap (λ t. as_issue n' t s r m) b ∙ ap (λ t. as_issue n' l' t r m) d ∙ ap (λ t. as_issue n' l' s' t m) e ∙ ap (λ t. as_issue n' l' s' r' t) f

pub issue_back : LeadsBack (λ f. object (members_by issue_of f)) (λ f. object (members_by issue_of f)) IsPlaced IsPlaced kept_issue
issue_back f g p q e =
    let a = kept_issue f in
    let b = kept_issue g in
    let line =
    decimal_injective a.line b.line (line_short f.file.text f.range.start p.short) (line_short g.file.text g.range.start q.short) (ap (λ j. text_in (at 0 (at 0 (at 3 j)))) e)
    in
    let name : a.name ≡ b.name = ap (λ j. text_in (at 1 (at 3 j))) e in
    let severity : a.severity ≡ b.severity = ap (λ j. text_in (at 4 j)) e in
    let rule : a.rule ≡ b.rule = ap (λ j. text_in (at 0 j)) e in
    let message : a.message ≡ b.message = ap (λ j. text_in (at 1 j)) e in
    same_issue a.name b.name a.line b.line a.severity b.severity a.rule b.rule a.message b.message name line severity rule message
