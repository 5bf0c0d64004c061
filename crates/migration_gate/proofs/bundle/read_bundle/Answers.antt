use Rattle.std.proofs.Common.{◌∙◌, sym, rules}
use Rattle.migration_gate.specs.Bundle.{entries_of}
use Rattle.migration_gate.proofs.Bundles.{all_read, bad_at, few_files, less_left, never_both, no_longer, nothing_before, one_bad_place, one_more, one_reading, short_texts}
use Rattle.migration_gate.proofs.bundle.read_bundle.Goals as goal

pub reading-init : goal.reading-init
reading-init c =
    let k = nothing_before c.args.text.now c.new-files.result.items c.new-files.ensures.items in
    record { utf8 = c.utf8.text; each = k.0; is = k.1 }

pub overflow_sub-at : goal.overflow_sub-at
overflow_sub-at c = no_longer _ c.args.text.now c.reading.rest.now c.reading.invariant.is

pub returns-in_default-clause-err : goal.returns-in_default-clause-err
returns-in_default-clause-err c =
    bad_at c.args.text.now c.reading.rest.now (entries_of c.reading.files.items) c.reading.invariant.each c.reading.invariant.is (sym c.is_empty.ensures ∙ c.reading-test.true) c.in_default.ensures

pub returns-in_default-clause-bundle : goal.returns-in_default-clause-bundle
returns-in_default-clause-bundle c = λ entries is.
    never_both c.args.text.now entries _ c.requires is
    (bad_at c.args.text.now c.reading.rest.now (entries_of c.reading.files.items) c.reading.invariant.each c.reading.invariant.is (sym c.is_empty.ensures ∙ c.reading-test.true) c.in_default.ensures)

pub returns-in_default-clause-bad : goal.returns-in_default-clause-bad
returns-in_default-clause-bad c = λ at is.
    one_bad_place c.args.text.now _ at c.requires
    (bad_at c.args.text.now c.reading.rest.now (entries_of c.reading.files.items) c.reading.invariant.each c.reading.invariant.is (sym c.is_empty.ensures ∙ c.reading-test.true) c.in_default.ensures)
    is

pub reading-smaller : goal.reading-smaller
reading-smaller c = less_left _ c.reading.rest.now c.in-Some.more.now c.in-Some.ensures.1

pub reading-preserved : goal.reading-preserved
reading-preserved c =
    let k = one_more c.args.text.now c.reading.rest.now c.in-Some.more.now c.reading.files.items c.push.new.self.items c.in-Some.file c.in-Ok.ensures.items c.reading.invariant.each c.reading.invariant.is
    c.in-Some.ensures.0 c.in-Some.ensures.1 in
    record { utf8 = search rules; each = k.0; is = k.1 }

pub returns-clause-ok : goal.returns-clause-ok
returns-clause-ok c =
    all_read c.args.text.now c.reading.rest.now (entries_of c.reading.files.items) c.reading.invariant.each c.reading.invariant.is (sym c.is_empty.ensures ∙ c.reading-test.false)

pub returns-clause-bundle : goal.returns-clause-bundle
returns-clause-bundle c = λ entries is.
    one_reading c.args.text.now (entries_of c.reading.files.items) entries c.requires
    (all_read c.args.text.now c.reading.rest.now (entries_of c.reading.files.items) c.reading.invariant.each c.reading.invariant.is (sym c.is_empty.ensures ∙ c.reading-test.false)) is

pub returns-clause-bad : goal.returns-clause-bad
returns-clause-bad c = λ at is.
    never_both c.args.text.now (entries_of c.reading.files.items) at c.requires
    (all_read c.args.text.now c.reading.rest.now (entries_of c.reading.files.items) c.reading.invariant.each c.reading.invariant.is (sym c.is_empty.ensures ∙ c.reading-test.false)) is

pub returns-clause-few : goal.returns-clause-few
returns-clause-few c =
    few_files c.args.text.now c.reading.files.items c.requires
    (all_read c.args.text.now c.reading.rest.now (entries_of c.reading.files.items) c.reading.invariant.each c.reading.invariant.is (sym c.is_empty.ensures ∙ c.reading-test.false))

pub returns-clause-short : goal.returns-clause-short
returns-clause-short c =
    short_texts c.args.text.now (entries_of c.reading.files.items) c.requires
    (all_read c.args.text.now c.reading.rest.now (entries_of c.reading.files.items) c.reading.invariant.each c.reading.invariant.is (sym c.is_empty.ensures ∙ c.reading-test.false))
