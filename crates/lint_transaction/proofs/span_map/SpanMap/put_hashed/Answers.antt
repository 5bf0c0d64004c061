use Rattle.std.proofs.Common.{◌∙◌, sym, ap, refl}
use Rattle.lint_transaction.proofs.SpanLaws.{on_ok}
use Rattle.lint_transaction.specs.SpanKey.{key_of, hash_of}
use Rattle.lint_transaction.specs.SpanMap.{Values}
use Rattle.lint_transaction.proofs.MapLaws.{list_value, not_free, write_value}
use Rattle.lint_transaction.proofs.span_map.SpanMap.put_hashed.Goals as goal

pub returns-then-is_free-clause-ok : goal.returns-then-is_free-clause-ok
returns-then-is_free-clause-ok g c =
    let p = c.args.p.now in
    let map = c.args.self.now in
    let hashed = c.hash-hash.ensures ∙ ap (λ (k : Values _). hash_of (key_of k.key p c.args.span)) c.self.view_is in
    on_ok c.write.result _ _
    (λ writes names. write_value p map c.write.new.self c.args.span c.args.value (key_of map.key p c.args.span) refl c.hash-hash.result hashed writes (sym c.is_free.ensures ∙ c.if-is_free.true) names)
    c.write.ensures.ok

pub returns-else-is_free-clause-ok : goal.returns-else-is_free-clause-ok
returns-else-is_free-clause-ok g c =
    let p = c.args.p.now in
    let map = c.args.self.now in
    let hashed = c.hash-hash.ensures ∙ ap (λ (k : Values _). hash_of (key_of k.key p c.args.span)) c.self.view_is in
    let own = key_of map.key p c.args.span in
    on_ok c.list.result _ _
    (λ lists names. list_value p map c.list.new.self c.args.span c.args.value own refl lists (not_free p map own c.hash-hash.result hashed (sym c.is_free.ensures ∙ c.if-is_free.false)) names)
    c.list.ensures.ok
