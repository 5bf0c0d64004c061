use Rattle.std.proofs.Common.{◌≡◌, ◌∙◌, List, ℕ, subst, sym}
use Rattle.std.proofs.lemmas.Bool.{true≢false}
use Rattle.std.proofs.lemmas.Slice.Eq.{bytes_eq-Decides}
use Rattle.std.specs.Prelude.{IfOk, IfSome, string_bytes}
use Rattle.psql_text.specs.Psql.{Passes, blank_all, start}
use Rattle.psql_text.specs.declared.part.Part.{Part}
use Rattle.psql_text.proofs.Once.{reads_one}
use Rattle.psql_edit.specs.Exchange.{HasSql}
use Rattle.psql_edit.proofs.Taking.{has_itself, is_own, moved}
use Rattle.psql_edit.proofs.edit.with_sql.Goals as goal

pub returns-then-eq-clause-some : goal.returns-then-eq-clause-some
returns-then-eq-clause-some c = λ ps passes.
    let old = c.args.old.now in
    let qs = c.in_ok-before.before.parts.items in
    let same = (bytes_eq-Decides c.as_slice.result.now c.as_bytes-2.result.now).0 (sym c.if-eq.ensures) in
    let here = subst (λ (x : List ℕ). Passes x qs) c.as_bytes.ensures.value c.in_ok-before.ensures.passes in
    let own = subst (λ (x : List ℕ). c.in_ok-before.before.sql.items ≡ blank_all qs x) c.as_bytes.ensures.value c.in_ok-before.ensures.sql in
    has_itself old c.args.sql.now (string_bytes c.in_ok-from_str.field-0) ps qs here (sym c.as_bytes-2.ensures.value ∙ (sym same ∙ (c.as_slice.ensures.value ∙ own))) c.in_ok-from_str.ensures.ok passes

pub returns-clause-some : goal.returns-clause-some
returns-clause-some c = λ ps passes.
    let old = c.args.old.now in
    let qs = c.in_ok-before.before.parts.items in
    let here = subst (λ (x : List ℕ). Passes x qs) c.as_bytes.ensures.value c.in_ok-before.ensures.passes in
    moved (λ (a : List ℕ) (rs : List Part) (s : List ℕ). IfOk c.taken.result (λ new. IfSome new (λ text. HasSql a rs s (string_bytes text))))
    c.as_bytes-5.result.now old c.as_slice-3.result.now ps c.as_bytes-6.result.now c.args.sql.now
    c.as_bytes-5.ensures.value (c.as_slice-3.ensures.value ∙ reads_one (start old) qs ps here passes) c.as_bytes-6.ensures.value c.taken.ensures

pub returns-clause-same : goal.returns-clause-same
returns-clause-same c = λ ps passes is.
    let old = c.args.old.now in
    let qs = c.in_ok-before.before.parts.items in
    let here = subst (λ (x : List ℕ). Passes x qs) c.as_bytes.ensures.value c.in_ok-before.ensures.passes in
    let own = subst (λ (x : List ℕ). c.in_ok-before.before.sql.items ≡ blank_all qs x) c.as_bytes.ensures.value c.in_ok-before.ensures.sql in
    let same = is_own old c.args.sql.now c.in_ok-before.before.sql.items ps qs here own passes is in
    let bytes = (bytes_eq-Decides c.as_slice.result.now c.as_bytes-2.result.now).1 (c.as_slice.ensures.value ∙ (same ∙ sym c.as_bytes-2.ensures.value)) in
    absurd (true≢false (sym bytes ∙ sym c.if-eq.ensures))
