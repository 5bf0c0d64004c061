use Rattle.std.proofs.Common.{◌∙◌, ap, map, None, false, arith}
use Rattle.pass_name.specs.declared.members.Member.{Member}
use Rattle.pass_name.specs.Groups.{firsts}
use Rattle.pass_name.specs.Entries.{entry_seen, items_of}
use Rattle.pass_name.proofs.GatherLaws.{member_next, list_next, all_seen}
use Rattle.pass_name.proofs.grouping.gather.Goals as goal

pub loop-member-init : goal.loop-member-init
unfolding firsts
loop-member-init c = ap (map entry_seen) c.new-by_name.ensures.empty

pub loop-member-preserved : goal.loop-member-preserved
loop-member-preserved c =
    let none : Member = record { name = 0; partial = false; part = None } in
    member_next c.args.p.now c.args.members.now c.loop-member.member-index none (map entry_seen c.loop-member.by_name.entries) (map entry_seen c.put.new.by_name.entries) _
    c.loop-member-test.true c.loop-member.invariant c.key_at.ensures c.in_ok-put.ensures

pub loop-alike-preserved : goal.loop-alike-preserved
loop-alike-preserved c =
    list_next c.loop-alike.alike-iterator c.next.new.self c.in-Some.alike (map items_of c.loop-alike.found.items) _ (map items_of c.push_repeated.new.found.items)
    c.in-Some.ensures.steps c.in_ok-push_repeated.ensures c.loop-alike.invariant

pub returns : goal.returns
returns c =
    all_seen c.args.p.now c.args.members.now c.loop-member.member-index c.loop-member.by_name.entries c.loop-alike.alike-iterator c.into_iter-alike-iterator.result (map items_of c.loop-alike.found.items)
    (omega arith) c.loop-member.invariant (c.into_iter-alike-iterator.ensures.into_iter_gives ∙ c.into_values-alike-items.ensures.rest) c.in-None.ensures.steps.0 c.loop-alike.invariant
