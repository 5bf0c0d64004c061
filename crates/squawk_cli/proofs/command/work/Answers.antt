use Rattle.std.proofs.Common.{◌≡◌, Some, arith, rules}
use Rattle.squawk_cli.specs.Modes.{given_text, groups_to_make}
use Rattle.squawk_cli.specs.Config.{config_of}
use Rattle.squawk_cli.specs.Outcome.{InputFor, WrittenFor}
use Rattle.squawk_run.specs.declared.status.Status.TheVariants.{Clean, Found, WriteFault}
use Rattle.squawk_cli.proofs.Inputs.{all_appended, input_refused, no_reports, none_where, of_any, of_text, part_appended, some_reports, some_where, unread_at_first, valid_text, written_refused}
use Rattle.squawk_cli.proofs.command.work.Goals as goal

pub returns-in-Err-clause-read : goal.returns-in-Err-clause-read
returns-in-Err-clause-read g c = unread_at_first (groups_to_make c.args.words.now) (g.S.Source.left c.args.src.now)

pub returns-in-Err-lint_input-clause-input : goal.returns-in-Err-lint_input-clause-input
returns-in-Err-lint_input-clause-input g c =
    let same = c.as_slice.ensures.value in
    let field = c.in-Ok-Some.field-0-is in
    let config = c.in-Ok-Some.config-is in
    let value = c.in-Ok-Some.ensures.value in
    let named : Some c.in-Ok-Some.config ≡ config_of c.args.words.now = cc in
    of_text c.args.words.now c.in-Ok-Some.config (g.S.Source.left c.args.src.now) c.in-Ok.text.items c.as_slice.result.now (InputFor _ c.args.words.now) named c.in-Ok.ensures.text c.as_slice.ensures.value
    (input_refused _ c.args.words.now c.as_slice.result.now (grind (arith, c.in-Ok.ensures.short, same)) c.in-Err-lint_input.ensures.refusal)

pub returns-in-Err-lint_input-clause-written : goal.returns-in-Err-lint_input-clause-written
returns-in-Err-lint_input-clause-written g c =
    of_any (given_text c.args.words.now (g.S.Source.left c.args.src.now)) _
    (λ t. written_refused _ c.args.words.now c.as_slice.result.now t _ _ c.in-Err-lint_input.ensures.refusal)

pub returns-then-is_clean-clause-input : goal.returns-then-is_clean-clause-input
returns-then-is_clean-clause-input g c =
    let found = c.in-Ok-lint_input.found in
    let field = c.in-Ok-Some.field-0-is in
    let config = c.in-Ok-Some.config-is in
    let value = c.in-Ok-Some.ensures.value in
    let named : Some c.in-Ok-Some.config ≡ config_of c.args.words.now = cc in
    of_text c.args.words.now c.in-Ok-Some.config (g.S.Source.left c.args.src.now) c.in-Ok.text.items c.as_slice.result.now (InputFor Clean c.args.words.now) named c.in-Ok.ensures.text c.as_slice.ensures.value
    (c.in-Ok-lint_input.ensures.utf8, no_reports c.args.words.now c.in-Ok-Some.config _ found named c.in-Ok-lint_input.ensures.found (none_where found.violations c.is_clean.result c.is_clean.ensures c.if-is_clean.true))

pub returns-then-is_clean-clause-written : goal.returns-then-is_clean-clause-written
returns-then-is_clean-clause-written g c =
    let found = c.in-Ok-lint_input.found in
    let field = c.in-Ok-Some.field-0-is in
    let config = c.in-Ok-Some.config-is in
    let value = c.in-Ok-Some.ensures.value in
    let named : Some c.in-Ok-Some.config ≡ config_of c.args.words.now = cc in
    of_text c.args.words.now c.in-Ok-Some.config (g.S.Source.left c.args.src.now) c.in-Ok.text.items c.as_slice.result.now
    (λ t. WrittenFor Clean c.args.words.now t (g.K.Sink.held c.args.out.now) (g.K.Sink.held c.write_found.new.out)) named c.in-Ok.ensures.text c.as_slice.ensures.value
    (all_appended c.args.words.now c.in-Ok-Some.config _ found _ _ named c.in-Ok-lint_input.ensures.found c.in-Ok-write_found.ensures.whole)

pub returns-in-Ok-write_found-clause-input : goal.returns-in-Ok-write_found-clause-input
returns-in-Ok-write_found-clause-input g c =
    let found = c.in-Ok-lint_input.found in
    let field = c.in-Ok-Some.field-0-is in
    let config = c.in-Ok-Some.config-is in
    let value = c.in-Ok-Some.ensures.value in
    let named : Some c.in-Ok-Some.config ≡ config_of c.args.words.now = cc in
    of_text c.args.words.now c.in-Ok-Some.config (g.S.Source.left c.args.src.now) c.in-Ok.text.items c.as_slice.result.now (InputFor Found c.args.words.now) named c.in-Ok.ensures.text c.as_slice.ensures.value
    (c.in-Ok-lint_input.ensures.utf8, some_reports c.args.words.now c.in-Ok-Some.config _ found named c.in-Ok-lint_input.ensures.found (some_where found.violations c.is_clean.result c.is_clean.ensures c.if-is_clean.false))

pub returns-in-Ok-write_found-clause-written : goal.returns-in-Ok-write_found-clause-written
returns-in-Ok-write_found-clause-written g c =
    let found = c.in-Ok-lint_input.found in
    let field = c.in-Ok-Some.field-0-is in
    let config = c.in-Ok-Some.config-is in
    let value = c.in-Ok-Some.ensures.value in
    let named : Some c.in-Ok-Some.config ≡ config_of c.args.words.now = cc in
    of_text c.args.words.now c.in-Ok-Some.config (g.S.Source.left c.args.src.now) c.in-Ok.text.items c.as_slice.result.now
    (λ t. WrittenFor Found c.args.words.now t (g.K.Sink.held c.args.out.now) (g.K.Sink.held c.write_found.new.out)) named c.in-Ok.ensures.text c.as_slice.ensures.value
    (all_appended c.args.words.now c.in-Ok-Some.config _ found _ _ named c.in-Ok-lint_input.ensures.found c.in-Ok-write_found.ensures.whole)

pub returns-in-Err-Fault-clause-input : goal.returns-in-Err-Fault-clause-input
returns-in-Err-Fault-clause-input g c =
    let found = c.in-Ok-lint_input.found in
    let field = c.in-Ok-Some.field-0-is in
    let config = c.in-Ok-Some.config-is in
    let value = c.in-Ok-Some.ensures.value in
    let named : Some c.in-Ok-Some.config ≡ config_of c.args.words.now = cc in
    of_text c.args.words.now c.in-Ok-Some.config (g.S.Source.left c.args.src.now) c.in-Ok.text.items c.as_slice.result.now (InputFor WriteFault c.args.words.now) named c.in-Ok.ensures.text c.as_slice.ensures.value
    (c.in-Ok-lint_input.ensures.utf8, valid_text c.in-Ok-Some.config _ found c.in-Ok-lint_input.ensures.found)

pub returns-in-Err-Fault-clause-written : goal.returns-in-Err-Fault-clause-written
returns-in-Err-Fault-clause-written g c =
    let found = c.in-Ok-lint_input.found in
    let field = c.in-Ok-Some.field-0-is in
    let config = c.in-Ok-Some.config-is in
    let value = c.in-Ok-Some.ensures.value in
    let named : Some c.in-Ok-Some.config ≡ config_of c.args.words.now = cc in
    of_text c.args.words.now c.in-Ok-Some.config (g.S.Source.left c.args.src.now) c.in-Ok.text.items c.as_slice.result.now
    (λ t. WrittenFor WriteFault c.args.words.now t (g.K.Sink.held c.args.out.now) (g.K.Sink.held c.write_found.new.out)) named c.in-Ok.ensures.text c.as_slice.ensures.value
    (part_appended c.args.words.now c.in-Ok-Some.config _ found _ _ named c.in-Ok-lint_input.ensures.found c.in-Err-Fault.ensures.part)

pub returns-in-Ok-None-clause-words : goal.returns-in-Ok-None-clause-words
returns-in-Ok-None-clause-words g c = search rules

pub returns-in-Ok-None-clause-unread : goal.returns-in-Ok-None-clause-unread
returns-in-Ok-None-clause-unread g c = search rules

pub returns-in-Ok-None-clause-read : goal.returns-in-Ok-None-clause-read
returns-in-Ok-None-clause-read g c = search rules

pub returns-in-Ok-None-clause-input : goal.returns-in-Ok-None-clause-input
returns-in-Ok-None-clause-input g c = search rules

pub returns-in-Ok-None-clause-written : goal.returns-in-Ok-None-clause-written
returns-in-Ok-None-clause-written g c = search rules

pub returns-in-Ok-None-clause-kept : goal.returns-in-Ok-None-clause-kept
returns-in-Ok-None-clause-kept g c = search rules

pub returns-in-Ok-None-clause-source : goal.returns-in-Ok-None-clause-source
returns-in-Ok-None-clause-source g c = search rules

pub returns-in-Ok-None-clause-sink : goal.returns-in-Ok-None-clause-sink
returns-in-Ok-None-clause-sink g c = search rules

pub returns-in-Err-clause-words : goal.returns-in-Err-clause-words
returns-in-Err-clause-words g c = search rules

pub returns-in-Err-clause-unread : goal.returns-in-Err-clause-unread
returns-in-Err-clause-unread g c = search rules

pub returns-in-Err-clause-input : goal.returns-in-Err-clause-input
returns-in-Err-clause-input g c = search rules

pub returns-in-Err-clause-written : goal.returns-in-Err-clause-written
returns-in-Err-clause-written g c = search rules

pub returns-in-Err-clause-kept : goal.returns-in-Err-clause-kept
returns-in-Err-clause-kept g c = search rules

pub returns-in-Err-clause-source : goal.returns-in-Err-clause-source
returns-in-Err-clause-source g c = search rules

pub returns-in-Err-clause-sink : goal.returns-in-Err-clause-sink
returns-in-Err-clause-sink g c = search rules

pub returns-in-Err-text_for-clause-words : goal.returns-in-Err-text_for-clause-words
returns-in-Err-text_for-clause-words g c = search rules

pub returns-in-Err-text_for-clause-unread : goal.returns-in-Err-text_for-clause-unread
returns-in-Err-text_for-clause-unread g c = search rules

pub returns-in-Err-text_for-clause-read : goal.returns-in-Err-text_for-clause-read
returns-in-Err-text_for-clause-read g c = search rules

pub returns-in-Err-text_for-clause-input : goal.returns-in-Err-text_for-clause-input
returns-in-Err-text_for-clause-input g c = search rules

pub returns-in-Err-text_for-clause-written : goal.returns-in-Err-text_for-clause-written
returns-in-Err-text_for-clause-written g c = search rules

pub returns-in-Err-text_for-clause-kept : goal.returns-in-Err-text_for-clause-kept
returns-in-Err-text_for-clause-kept g c = search rules

pub returns-in-Err-text_for-clause-source : goal.returns-in-Err-text_for-clause-source
returns-in-Err-text_for-clause-source g c = search rules

pub returns-in-Err-text_for-clause-sink : goal.returns-in-Err-text_for-clause-sink
returns-in-Err-text_for-clause-sink g c = search rules

pub returns-in-Err-lint_input-clause-words : goal.returns-in-Err-lint_input-clause-words
returns-in-Err-lint_input-clause-words g c = search rules

pub returns-in-Err-lint_input-clause-unread : goal.returns-in-Err-lint_input-clause-unread
returns-in-Err-lint_input-clause-unread g c = search rules

pub returns-in-Err-lint_input-clause-read : goal.returns-in-Err-lint_input-clause-read
returns-in-Err-lint_input-clause-read g c = search rules

pub returns-in-Err-lint_input-clause-kept : goal.returns-in-Err-lint_input-clause-kept
returns-in-Err-lint_input-clause-kept g c = search rules

pub returns-in-Err-lint_input-clause-source : goal.returns-in-Err-lint_input-clause-source
returns-in-Err-lint_input-clause-source g c = search rules

pub returns-in-Err-lint_input-clause-sink : goal.returns-in-Err-lint_input-clause-sink
returns-in-Err-lint_input-clause-sink g c = search rules

pub returns-then-is_clean-clause-words : goal.returns-then-is_clean-clause-words
returns-then-is_clean-clause-words g c = search rules

pub returns-then-is_clean-clause-unread : goal.returns-then-is_clean-clause-unread
returns-then-is_clean-clause-unread g c = search rules

pub returns-then-is_clean-clause-read : goal.returns-then-is_clean-clause-read
returns-then-is_clean-clause-read g c = search rules

pub returns-then-is_clean-clause-kept : goal.returns-then-is_clean-clause-kept
returns-then-is_clean-clause-kept g c = search rules

pub returns-then-is_clean-clause-source : goal.returns-then-is_clean-clause-source
returns-then-is_clean-clause-source g c = search rules

pub returns-then-is_clean-clause-sink : goal.returns-then-is_clean-clause-sink
returns-then-is_clean-clause-sink g c = search rules

pub returns-in-Ok-write_found-clause-words : goal.returns-in-Ok-write_found-clause-words
returns-in-Ok-write_found-clause-words g c = search rules

pub returns-in-Ok-write_found-clause-unread : goal.returns-in-Ok-write_found-clause-unread
returns-in-Ok-write_found-clause-unread g c = search rules

pub returns-in-Ok-write_found-clause-read : goal.returns-in-Ok-write_found-clause-read
returns-in-Ok-write_found-clause-read g c = search rules

pub returns-in-Ok-write_found-clause-kept : goal.returns-in-Ok-write_found-clause-kept
returns-in-Ok-write_found-clause-kept g c = search rules

pub returns-in-Ok-write_found-clause-source : goal.returns-in-Ok-write_found-clause-source
returns-in-Ok-write_found-clause-source g c = search rules

pub returns-in-Ok-write_found-clause-sink : goal.returns-in-Ok-write_found-clause-sink
returns-in-Ok-write_found-clause-sink g c = search rules

pub returns-in-Err-Fault-clause-words : goal.returns-in-Err-Fault-clause-words
returns-in-Err-Fault-clause-words g c = search rules

pub returns-in-Err-Fault-clause-unread : goal.returns-in-Err-Fault-clause-unread
returns-in-Err-Fault-clause-unread g c = search rules

pub returns-in-Err-Fault-clause-read : goal.returns-in-Err-Fault-clause-read
returns-in-Err-Fault-clause-read g c = search rules

pub returns-in-Err-Fault-clause-kept : goal.returns-in-Err-Fault-clause-kept
returns-in-Err-Fault-clause-kept g c = search rules

pub returns-in-Err-Fault-clause-source : goal.returns-in-Err-Fault-clause-source
returns-in-Err-Fault-clause-source g c = search rules

pub returns-in-Err-Fault-clause-sink : goal.returns-in-Err-Fault-clause-sink
returns-in-Err-Fault-clause-sink g c = search rules

pub returns-clause-words : goal.returns-clause-words
returns-clause-words g c = search rules

pub returns-clause-unread : goal.returns-clause-unread
returns-clause-unread g c = search rules

pub returns-clause-read : goal.returns-clause-read
returns-clause-read g c = search rules

pub returns-clause-input : goal.returns-clause-input
returns-clause-input g c = search rules

pub returns-clause-written : goal.returns-clause-written
returns-clause-written g c = search rules

pub returns-clause-kept : goal.returns-clause-kept
returns-clause-kept g c = search rules

pub returns-clause-source : goal.returns-clause-source
returns-clause-source g c = search rules

pub returns-clause-sink : goal.returns-clause-sink
returns-clause-sink g c = search rules
