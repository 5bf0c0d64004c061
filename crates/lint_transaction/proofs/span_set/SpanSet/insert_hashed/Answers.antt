use Rattle.std.proofs.Common.{◌∙◌, sym, ap, refl}
use Rattle.lint_transaction.specs.SpanKey.{key_of, hash_of}
use Rattle.lint_transaction.specs.SpanSet.{Spans}
use Rattle.lint_transaction.proofs.SpanLaws.{on_ok, hashed_span, held_span, put_span}
use Rattle.lint_transaction.proofs.span_set.SpanSet.insert_hashed.Goals as goal

pub returns-then-is_hashed-clause-ok : goal.returns-then-is_hashed-clause-ok
returns-then-is_hashed-clause-ok c names =
    let p = c.args.p.now in
    let set = c.args.self.now in
    held_span p set (key_of set.key p c.args.span) names (hashed_span p set _ (sym c.is_hashed.ensures ∙ c.if-is_hashed.true))

pub returns-else-is_hashed-clause-ok : goal.returns-else-is_hashed-clause-ok
returns-else-is_hashed-clause-ok c =
    let p = c.args.p.now in
    let set = c.args.self.now in
    let hashed = c.hash-hash.ensures ∙ ap (λ (k : Spans). hash_of (key_of k.key p c.args.span)) c.self.view_is in
    on_ok c.add.result _ _ (λ puts names. put_span p set c.add.new.self c.hash-hash.result c.args.span (key_of set.key p c.args.span) puts hashed refl names) c.add.ensures.ok
