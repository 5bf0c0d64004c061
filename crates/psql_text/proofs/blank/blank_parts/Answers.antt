use Rattle.std.proofs.Common.{◌<◌, refl, sym, ◌∙◌, arith, List, ℕ, subst}
use Rattle.std.specs.Prelude.{Option}
use Rattle.psql_text.specs.declared.reading.Found.{Found}
use Rattle.psql_text.proofs.Going.{Going, begins, goes_on, left_of, part_within, few_more, place_after, less_left, all_told}
use Rattle.psql_text.proofs.blank.blank_parts.Goals as goal

pub parts-init : goal.parts-init
parts-init c = begins c.args.bytes.now c.args.text.now.items c.args.first (record { commands = 0; data_lines = 0; bodies = 0 }) c.requires.same refl refl refl c.requires.goes c.requires.ahead

pub with-counts-requires-clause-part : goal.with-counts-requires-clause-part
with-counts-requires-clause-part c =
    let going = subst (λ (x : Option Found). Going c.args.bytes.now c.args.first c.parts.text.items c.parts.counts x) c.in-Some.is c.parts.invariant in
    let within = part_within c.args.bytes.now c.args.first c.in-Some.found c.parts.text.items c.parts.counts going in
    (within.0, within.1)

pub with-counts-requires-clause-few : goal.with-counts-requires-clause-few
with-counts-requires-clause-few c =
    let going = subst (λ (x : Option Found). Going c.args.bytes.now c.args.first c.parts.text.items c.parts.counts x) c.in-Some.is c.parts.invariant in
    let few = few_more c.args.bytes.now c.args.first c.in-Some.found c.parts.text.items c.parts.counts going in (
      omega (arith, few.0, going.same, c.parts.text.ok.0, c.parts.text.small),
      omega (arith, few.1, going.same, c.parts.text.ok.0, c.parts.text.small),
      omega (arith, few.2, going.same, c.parts.text.ok.0, c.parts.text.small),
    )

pub blank_out-requires : goal.blank_out-requires
blank_out-requires c =
    let going = subst (λ (x : Option Found). Going c.args.bytes.now c.args.first c.parts.text.items c.parts.counts x) c.in-Some.is c.parts.invariant in
    let within = part_within c.args.bytes.now c.args.first c.in-Some.found c.parts.text.items c.parts.counts going in
    (within.1, omega (arith, within.2, c.parts.text.ok.0))

pub next_part-next-requires : goal.next_part-next-requires
next_part-next-requires c =
    let going = subst (λ (x : Option Found). Going c.args.bytes.now c.args.first c.parts.text.items c.parts.counts x) c.in-Some.is c.parts.invariant in
    place_after c.args.bytes.now c.args.first c.in-Some.found c.parts.text.items c.deref.result.now c.parts.counts going (c.deref.ensures.value ∙ c.blank_out.ensures)

pub parts-smaller : goal.parts-smaller
parts-smaller c =
    let going = subst (λ (x : Option Found). Going c.args.bytes.now c.args.first c.parts.text.items c.parts.counts x) c.in-Some.is c.parts.invariant in
    let less = less_left c.args.bytes.now c.args.first c.in-Some.found c.parts.text.items c.deref.result.now c.parts.counts c.next_part-next.result going (c.deref.ensures.value ∙ c.blank_out.ensures) c.next_part-next.ensures.ahead in
    subst (λ (x : Option Found). left_of c.args.bytes.now c.next_part-next.result < left_of c.args.bytes.now x) (sym c.in-Some.is) less

pub parts-preserved : goal.parts-preserved
parts-preserved c =
    let going = subst (λ (x : Option Found). Going c.args.bytes.now c.args.first c.parts.text.items c.parts.counts x) c.in-Some.is c.parts.invariant in
    let next = goes_on c.args.bytes.now c.args.first c.in-Some.found c.parts.text.items c.deref.result.now c.parts.counts c.with-counts.result c.next_part-next.result going (c.deref.ensures.value ∙ c.blank_out.ensures)
    c.with-counts.ensures.commands c.with-counts.ensures.data c.with-counts.ensures.bodies c.with-counts.ensures.few.0 c.with-counts.ensures.few.1 c.with-counts.ensures.few.2 c.next_part-next.ensures.finds c.next_part-next.ensures.ahead in
    subst (λ (x : List ℕ). Going c.args.bytes.now c.args.first x c.with-counts.result c.next_part-next.result) c.deref.ensures.value next

pub returns-clause-told : goal.returns-clause-told
returns-clause-told c = all_told c.args.bytes.now c.args.first c.parts.text.items c.parts.counts c.parts.next c.in_default.is c.parts.invariant

pub returns-clause-utf8 : goal.returns-clause-utf8
returns-clause-utf8 c = c.parts.invariant.utf8
