use Rattle.std.proofs.Common.{ℕ, ◌<◌, List, Some, refl, sym, subst, ◌∙◌}
use Rattle.std.specs.Prelude.{Option}
use Rattle.psql_text.proofs.Steps.{start_found}
use Rattle.psql_text.specs.declared.part.Part.{Part}
use Rattle.psql_text.specs.declared.reading.Found.{Found}
use Rattle.psql_edit.proofs.Parting.{Going, all_found, begins, goes_on, left_of, less_left, place_after}
use Rattle.psql_edit.proofs.parts.parts_in.Goals as goal

pub parts-init : goal.parts-init
parts-init c =
    let t = c.args.text.now in
    let found = start_found t t c.start.result c.next_part-next.result refl c.start.ensures.at c.start.ensures.taken c.start.ensures.statement c.next_part-next.ensures.finds in
    subst (λ (x : List Part). Going t c.in_ok-sql.sql.items x c.next_part-next.result) (sym c.new-parts.ensures.items)
    (begins t c.in_ok-sql.sql.items c.start.result c.next_part-next.result c.in_ok-sql.ensures.items found c.next_part-next.ensures.ahead)

pub next_part-next-requires-in-Some : goal.next_part-next-requires-in-Some
next_part-next-requires-in-Some c =
    let t = c.args.text.now in
    let parts = c.parts.parts.items in
    let going = subst (λ (x : Option Found). Going t c.parts.sql.items parts x) c.in-Some.is c.parts.invariant in
    place_after t c.parts.sql.items c.as_slice.result.now parts c.in-Some.found going (c.as_slice.ensures.value ∙ c.blank_out.ensures)

pub parts-smaller : goal.parts-smaller
parts-smaller c =
    let t = c.args.text.now in
    let parts = c.parts.parts.items in
    let next = c.next_part-next-in-Some.result in
    let going = subst (λ (x : Option Found). Going t c.parts.sql.items parts x) c.in-Some.is c.parts.invariant in
    let less = less_left t c.parts.sql.items c.as_slice.result.now parts c.in-Some.found next going (c.as_slice.ensures.value ∙ c.blank_out.ensures) c.next_part-next-in-Some.ensures.ahead in
    subst (λ (x : Option Found). left_of t next < left_of t x) (sym c.in-Some.is) less

pub parts-preserved : goal.parts-preserved
parts-preserved c =
    let t = c.args.text.now in
    let parts = c.parts.parts.items in
    let next = c.next_part-next-in-Some.result in
    let more = c.push.new.self.items in
    let going = subst (λ (x : Option Found). Going t c.parts.sql.items parts x) c.in-Some.is c.parts.invariant in
    let all = goes_on t c.parts.sql.items c.as_slice.result.now parts more c.in-Some.found next going c.in_ok-push.ensures.items (c.as_slice.ensures.value ∙ c.blank_out.ensures)
    c.next_part-next-in-Some.ensures.finds c.next_part-next-in-Some.ensures.ahead in
    subst (λ (x : List ℕ). Going t x more next) c.as_slice.ensures.value all
