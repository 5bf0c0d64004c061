use Rattle.std.proofs.Common.{◌≡◌, ◌<◌, arith, length}
use Rattle.text_pos.specs.Line.{line_feeds}
use Rattle.text_pos.proofs.LineFeeds.{found_below, line_index-line_feeds, search_begins, search_ends, search_goes_on}
use Rattle.text_pos.proofs.line.LineIndex.new.Goals as goal

pub loop-at-init : goal.loop-at-init
loop-at-init c =
    search_begins c.args.text.now c.as_bytes.result.now c.new-feeds.result.items c.memchr_iter-at-items.result c.into_iter-at-iterator.result
    c.new-feeds.ensures.items c.into_iter-at-iterator.ensures.into_iter_gives c.memchr_iter-at-items.ensures.value c.as_bytes.ensures.value

pub overflow_cast-at : goal.overflow_cast-at
overflow_cast-at c =
    let below : c.in-Some.at < length c.args.text.now =
    found_below c.args.text.now c.loop-at.feeds.items c.loop-at.at-iterator c.next.new.self c.in-Some.at c.loop-at.invariant c.in-Some.ensures.steps in
    omega (arith, below, c.requires)

pub loop-at-preserved : goal.loop-at-preserved
loop-at-preserved c =
    search_goes_on (line_feeds c.args.text.now) c.loop-at.feeds.items c.push.new.self.items c.loop-at.at-iterator c.next.new.self c.in-Some.at
    c.loop-at.invariant c.in-Some.ensures.steps c.in_ok-push.ensures.items

pub invariant_of-result : goal.invariant_of-result
invariant_of-result c =
    let whole : c.loop-at.feeds.items ≡ line_feeds c.args.text.now =
    search_ends (line_feeds c.args.text.now) c.loop-at.feeds.items c.loop-at.at-iterator c.loop-at.invariant c.in-None.ensures.steps.0 in
    rw whole (line_index-line_feeds c.args.text.now c.requires)

pub returns : goal.returns
returns c = search_ends (line_feeds c.args.text.now) c.loop-at.feeds.items c.loop-at.at-iterator c.loop-at.invariant c.in-None.ensures.steps.0
