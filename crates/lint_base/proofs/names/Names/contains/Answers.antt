use Rattle.std.specs.String.{string_bytes}
use Rattle.lint_base.proofs.Among.{contains_exactly}
use Rattle.lint_base.proofs.names.Names.contains.Goals as goal

pub returns : goal.returns
returns c =
    rw (← c.self.view_is, ← c.as_slice.ensures.value)
    (contains_exactly string_bytes c.as_slice.result.now c.args.s.now c.is_among.result c.is_among.ensures)
