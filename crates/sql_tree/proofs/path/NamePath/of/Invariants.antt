use Rattle.std.proofs.Common.{◌≡◌, ◌≤◌, ◌+◌, ◌++◌, map}
use Rattle.sql_name.specs.Compared.{name_cut}
use Rattle.sql_tree.specs.Path.{path_cuts}
use Rattle.sql_tree.proofs.PathSteps.{cuts_from}
use Rattle.sql_tree.proofs.path.NamePath.of.Given as goal

abbrev pub invariant-loop-i : goal.invariant-loop-i
invariant-loop-i l = record {
  room : 2 ≤ l.names.capacity;
  same : map name_cut l.names.items ++ cuts_from l.p.text l.p.toks (l.fn.span.last + 1) l.i ≡ path_cuts l.p.text l.p.toks l.fn.span;
}
