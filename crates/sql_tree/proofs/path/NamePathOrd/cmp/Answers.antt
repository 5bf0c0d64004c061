use Rattle.std.proofs.Common.{◌∙◌, sym}
use Rattle.std.specs.Cmp.Derive.Mapped.{lex_map}
use Rattle.std.specs.Cmp.Lexicographic.{slice_cmp}
use Rattle.std.specs.Ordering.{nat_cmp}
use Rattle.sql_name.specs.Compared.{name_cut}
use Rattle.sql_tree.proofs.path.NamePathOrd.cmp.Goals as goal

pub returns : goal.returns
returns c = c.cmp.ensures ∙ sym (lex_map name_cut (slice_cmp nat_cmp) c.args.self.now.names.items c.args.other.now.names.items)
