use Rattle.law_answer_steps.proofs.Leaving as leaving
use Rattle.law_answer_steps.proofs.laws.answers_leave.Goals as goal

pub returns : goal.returns
returns c =
    leaving.answers_leave c.answered_fixes_mend.ensures.stand c.placed_pass.ensures
    (record {
      builds_leave = c.fixes_leave.ensures.builds;
      dropped_leave = c.fixes_leave.ensures.dropped;
      rebuilt_leave = c.fixes_leave.ensures.rebuilt;
      varchars_leave = c.fixes_leave.ensures.varchars;
      timestamps_leave = c.fixes_leave.ensures.timestamps;
      ints_leave = c.fixes_leave.ensures.ints;
      smallints_leave = c.fixes_leave.ensures.smallints;
    })
