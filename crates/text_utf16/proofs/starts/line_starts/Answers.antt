use Rattle.std.proofs.Common.{◌≡◌, ◌<◌, arith, ℕ, List, length, ap, ◌∙◌, map, ◌∷◌, [], ◌++◌, refl, sym, ◌+◌}
use Rattle.std.proofs.lemmas.List.{map-append}
use Rattle.text_pos.specs.Line.{line_feeds}
use Rattle.text_pos.proofs.LineFeeds.{found_below, search_begins, search_ends, search_goes_on}
use Rattle.text_utf16.proofs.starts.line_starts.Goals as goal

-- where a line begins after each of some line feeds
abbrev starts_of : List ℕ → List ℕ
starts_of feeds = 0 ∷ map (λ feed. feed + 1) feeds

one_more : (feeds starts more : List ℕ) (feed : ℕ) → starts ≡ starts_of feeds → more ≡ starts ++ (feed + 1) ∷ [] → more ≡ starts_of (feeds ++ feed ∷ [])
one_more feeds starts more feed is pushed =
    pushed ∙ ap (λ xs. xs ++ (feed + 1) ∷ []) is ∙ ap (λ xs. 0 ∷ xs) (sym (map-append (λ f. f + 1) feeds (feed ∷ [])))

pub loop-feed-init : goal.loop-feed-init
loop-feed-init c = (
  [],
  c.in_ok-push.ensures.items ∙ ap (λ xs. xs ++ 0 ∷ []) c.new-starts.ensures.items,
  search_begins c.args.text.now c.as_bytes.result.now [] c.memchr_iter-feed-items.result c.into_iter-feed-iterator.result
      refl c.into_iter-feed-iterator.ensures.into_iter_gives c.memchr_iter-feed-items.ensures.value c.as_bytes.ensures.value,
)

pub overflow_cast-feed : goal.overflow_cast-feed
overflow_cast-feed c =
    let l : c.in-Some.feed < length c.args.text.now =
    found_below c.args.text.now c.loop-feed.invariant.0 c.loop-feed.feed-iterator c.next.new.self c.in-Some.feed c.loop-feed.invariant.2 c.in-Some.ensures.steps in
    omega (arith, l, c.requires)

pub overflow_add-feed : goal.overflow_add-feed
overflow_add-feed c =
    let l : c.in-Some.feed < length c.args.text.now =
    found_below c.args.text.now c.loop-feed.invariant.0 c.loop-feed.feed-iterator c.next.new.self c.in-Some.feed c.loop-feed.invariant.2 c.in-Some.ensures.steps in
    omega (arith, l, c.requires)

pub loop-feed-preserved : goal.loop-feed-preserved
loop-feed-preserved c = (
  c.loop-feed.invariant.0 ++ c.in-Some.feed ∷ [],
  one_more c.loop-feed.invariant.0 c.loop-feed.starts.items c.push-in-loop-feed.new.self.items c.in-Some.feed c.loop-feed.invariant.1 c.in_ok-push-2.ensures.items,
  search_goes_on (line_feeds c.args.text.now) c.loop-feed.invariant.0 _ c.loop-feed.feed-iterator c.next.new.self c.in-Some.feed
      c.loop-feed.invariant.2 c.in-Some.ensures.steps refl,
)

pub returns : goal.returns
returns c =
    c.loop-feed.invariant.1
    ∙ ap starts_of (search_ends (line_feeds c.args.text.now) c.loop-feed.invariant.0 c.loop-feed.feed-iterator c.loop-feed.invariant.2 c.in-None.ensures.steps.0)
