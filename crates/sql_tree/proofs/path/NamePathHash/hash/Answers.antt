use Rattle.std.proofs.Common.{◌∙◌, sym, ap, fold}
use Rattle.std.specs.Cmp.Derive.Mapped.{items_map}
use Rattle.sql_name.specs.Compared.{name_cut}
use Rattle.sql_name.specs.Hash.{text_writes}
use Rattle.sql_tree.proofs.path.NamePathHash.hash.Goals as goal

pub returns : goal.returns
returns g c =
    c.hash.ensures
    ∙ ap (fold g.H.Hasher.write c.args.state.now) (sym (items_map name_cut text_writes c.args.self.now.names.items))
