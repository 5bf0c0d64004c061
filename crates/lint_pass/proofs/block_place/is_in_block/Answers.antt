use Rattle.std.proofs.Common.{◌∙◌, sym, ap, length}
use Rattle.std.proofs.lemmas.Bool.{le-ltb}
use Rattle.std.specs.List.{list_any}
use Rattle.lint_pass.specs.BlockPlace.{covers}
use Rattle.lint_pass.proofs.BlockPlaces.{in_next, in_none}
use Rattle.lint_pass.proofs.block_place.is_in_block.Goals as goal

pub returns-then-next-blocks : goal.returns-then-next-blocks
returns-then-next-blocks c =
    let bs = c.args.blocks.now in
    let i = c.args.i in
    sym (ap (list_any (covers i)) (sym c.requires.blocks) ∙ in_next c.args._p.now i (length c.args._p.now.stmts) c.args.next bs (record { first = 0; last = 0 }) c.requires.within c.requires.blocks c.requires.next c.if-next-blocks.true)

pub returns-else-next-blocks : goal.returns-else-next-blocks
returns-else-next-blocks c =
    let bs = c.args.blocks.now in
    let i = c.args.i in
    le-ltb c.args.next (length bs) c.if-next-blocks.false
    ∙ sym (ap (list_any (covers i)) (sym c.requires.blocks) ∙ in_none c.args._p.now i (length c.args._p.now.stmts) c.args.next bs (record { first = 0; last = 0 }) c.requires.within c.requires.blocks c.requires.next c.if-next-blocks.false)
