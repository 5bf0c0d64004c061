use Rattle.std.proofs.Common.{◌∙◌, sym}
use Rattle.std.specs.Cmp.Derive.Mapped.{pointwise-map}
use Rattle.std.specs.Str.{bytes_eq}
use Rattle.sql_name.specs.Compared.{name_cut}
use Rattle.sql_tree.proofs.path.NamePathPartialEq.eq.Goals as goal

pub returns : goal.returns
returns c = c.eq.ensures ∙ sym (pointwise-map name_cut bytes_eq c.args.self.now.names.items c.args.other.now.names.items)
