use Rattle.std.proofs.Common.{◌≡◌, ◌++◌, take, filter, map}
use Rattle.pass_name.specs.Entries.{items_of, entry_seen}
use Rattle.pass_name.specs.Groups.{is_repeated}
use Rattle.pass_name.proofs.GatherLaws.{gathered_by}
use Rattle.pass_name.proofs.grouping.gather.Given as goal

-- the members so far
abbrev pub invariant-loop-member : goal.invariant-loop-member
invariant-loop-member l = map entry_seen l.by_name.entries ≡ gathered_by l.p (take l.member-index l.members)

-- the groups so far, and those among the lists that are left, are those of all lists
abbrev pub invariant-loop-alike : goal.invariant-loop-alike
invariant-loop-alike l =
    map items_of l.found.items ++ filter is_repeated (map items_of l.alike-iterator) ≡ filter is_repeated (map items_of l.initial.alike-iterator)
