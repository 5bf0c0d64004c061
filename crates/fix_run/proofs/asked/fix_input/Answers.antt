use Rattle.fix_run.specs.Inputs.{input_content, input_name}
use Rattle.fix_run.proofs.Lists.{files_more, have_one, sound_more}
use Rattle.std.proofs.Common.{All, List, subst, sym}
use Rattle.std.proofs.lemmas.List.Elements.{All-nil}
use Rattle.gate_files.specs.declared.read.Unread.{Unread}
use Rattle.fix_output.specs.declared.file.FixedFile.{FixedFile}
use Rattle.fix_run.specs.Outcomes.{IsSound, IsSoundFile}
use Rattle.fix_run.proofs.asked.fix_input.Goals as goal

pub returns-clause-come : goal.returns-clause-come
returns-clause-come g c =
    let none = c.no_files-all.result in
    let all = c.keep.new.all in
    have_one (g.M.Fixer.answers c.args.fixer.now) (λ name. input_content (g.S.Source.left c.args.src.now)) (g.S.Source.faults c.args.src.now) (g.S.Source.faults c.input_came.new.src) input_name
    none.fixed.items all.fixed.items none.unread.items all.unread.items c.in_ok-came.came c.no_files-all.ensures.fixed c.no_files-all.ensures.unread c.in_ok-came.ensures.came
    c.in_ok-keep.ensures.fixed c.in_ok-keep.ensures.unread

pub returns-clause-sound : goal.returns-clause-sound
returns-clause-sound g c =
    sound_more c.no_files-all.result.unread.items c.keep.new.all.unread.items c.in_ok-came.came c.in_ok-keep.ensures.unread
    (subst (λ (us : List Unread). All IsSound us) (sym c.no_files-all.ensures.unread) (All-nil IsSound)) c.in_ok-came.ensures.sound

pub returns-clause-sound_files : goal.returns-clause-sound_files
returns-clause-sound_files g c =
    files_more c.no_files-all.result.fixed.items c.keep.new.all.fixed.items c.in_ok-came.came c.in_ok-keep.ensures.fixed
    (subst (λ (fs : List FixedFile). All IsSoundFile fs) (sym c.no_files-all.ensures.fixed) (All-nil IsSoundFile)) c.in_ok-came.ensures.sound
