use Rattle.std.proofs.Common.{◌≡◌, refl, [], arith}
use Rattle.std.proofs.lemmas.Grind.{common_steps}
use Rattle.lint_transaction.proofs.SpanLaws.{on_ok}
use Rattle.lint_transaction.specs.SpanKey.{key_of}
use Rattle.lint_transaction.proofs.MapLaws.{list_value, none_hashed}
use Rattle.lint_transaction.proofs.span_map.SpanMap.put.Goals as goal

pub returns-then-len-lt-FEW-clause-ok : goal.returns-then-len-lt-FEW-clause-ok
returns-then-len-lt-FEW-clause-ok g c =
    let p = c.args.p.now in
    let map = c.args.self.now in
    let own = key_of map.key p c.args.span in
    let empty : c.args.self.now.hashed ≡ [] = grind (arith, common_steps) in
    on_ok c.list.result _ _
    (λ lists names. list_value p map c.list.new.self c.args.span c.args.value own refl lists (none_hashed p map empty own) names)
    c.list.ensures.ok
