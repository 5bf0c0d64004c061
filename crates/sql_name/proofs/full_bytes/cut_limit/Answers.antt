use Rattle.std.proofs.Common.{◌≡◌, ◌<◌, ◌≤◌, ◌⊎◌, ◌+◌, ◌-◌, [], ◌∷◌, drop, refl, ap, ◌∙◌, sym, inl, inr, take, length, arith}
use Rattle.std.proofs.lemmas.List.{length-take, length-drop}
use Rattle.sql_name.specs.FullBytes.{bytes_left}
use Rattle.sql_name.specs.Name.{full_name, cut_name, cut_to}
use Rattle.sql_name.proofs.FullText.{length-full_name}
use Rattle.sql_name.proofs.Cuts.{cut_to_all, rest_more, inside_more, cut_before_lead, cut_before_inner}
use Rattle.sql_name.proofs.full_bytes.cut_limit.Goals as goal
use Rattle.sql_name.proofs.full_bytes.cut_limit.Goals.{then-byte-lt128, then-byte-lt128-via-then-byte-lt128, then-byte-lt128-via-else-byte-lt128+then-byte-ge192, else-byte-lt128+else-byte-ge192}

pub returns-then-text-le-CUT_LEN : goal.returns-then-text-le-CUT_LEN
unfolding cut_name
returns-then-text-le-CUT_LEN c =
    let short : length (full_name c.args.text.now) ≤ 63 = omega (arith, length-full_name c.args.text.now) in
    sym (cut_to_all 63 (full_name c.args.text.now) short)

pub loop-byte-init : goal.loop-byte-init
unfolding cut_to
loop-byte-init c = record {
  rest = ap bytes_left c.into_iter-byte-iterator.ensures.into_iter_gives ∙ c.new-byte-items.ensures;
  inside = omega arith;
  found = refl;
}

pub loop-byte-preserved : goal.loop-byte-preserved
loop-byte-preserved c =
    let s = full_name c.args.text.now in
    let more = sym c.loop-byte.invariant.rest ∙ c.in-Some.ensures.steps in
    record {
      rest = rest_more (take 64 s) (bytes_left c.next.new.self) c.loop-byte.len c.in-Some.byte more;
      inside = inside_more (take 64 s) (bytes_left c.next.new.self) c.loop-byte.len c.in-Some.byte more;
      found = found more;
    }
  where
    found : drop c.loop-byte.len (take 64 (full_name c.args.text.now)) ≡ c.in-Some.byte ∷ bytes_left c.next.new.self → take c.if-byte-lt128.boundary (full_name c.args.text.now) ≡ cut_to (c.loop-byte.len + 1 - 1) (full_name c.args.text.now)
    found more =
        let s = full_name c.args.text.now in
        let rest = bytes_left c.next.new.self in
        let len : c.loop-byte.len ≡ c.loop-byte.len + 1 - 1 = omega arith in
        let lead = λ (low : (c.in-Some.byte < 128) ⊎ (192 ≤ c.in-Some.byte)). cut_before_lead s rest 64 c.loop-byte.len c.in-Some.byte more low in
        elim c.if-byte-lt128.branch [
          | then-byte-lt128 w ↦
              ap (λ n. take n s) w.boundary-is ∙ lead (elim w.then-byte-lt128.branch [
                | then-byte-lt128-via-then-byte-lt128 v ↦ inl v.if-byte-lt128.true
                | then-byte-lt128-via-else-byte-lt128+then-byte-ge192 v ↦ inr v.if-byte-ge192.true
              ]) ∙ ap (λ n. cut_to n s) len
          | else-byte-lt128+else-byte-ge192 w ↦
              ap (λ n. take n s) w.boundary-is
              ∙ cut_before_inner s rest 64 c.loop-byte.len c.in-Some.byte more c.loop-byte.boundary w.if-byte-lt128.false w.if-byte-ge192.false c.loop-byte.invariant.found
              ∙ ap (λ n. cut_to n s) len
        ]

pub returns-then-len-le-CUT_LEN : goal.returns-then-len-le-CUT_LEN
unfolding cut_name
returns-then-len-le-CUT_LEN c =
    let s = full_name c.args.text.now in
    let none : drop c.loop-byte.len (take 64 s) ≡ [] = sym c.loop-byte.invariant.rest ∙ c.in-None.ensures.steps.0 in
    let short : length s ≤ 63 = omega (arith, length-drop c.loop-byte.len (take 64 s), length-take 64 s, ap length none) in
    sym (cut_to_all 63 s short)

pub returns-else-len-le-CUT_LEN : goal.returns-else-len-le-CUT_LEN
unfolding cut_name
returns-else-len-le-CUT_LEN c =
    let s = full_name c.args.text.now in
    let len : c.loop-byte.len - 1 ≡ 63 = omega (arith, c.loop-byte.invariant.inside, length-take 64 s) in
    c.loop-byte.invariant.found ∙ ap (λ n. cut_to n s) len
