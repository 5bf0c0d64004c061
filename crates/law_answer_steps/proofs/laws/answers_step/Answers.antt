use Rattle.law_answer_steps.proofs.Tables.{answers_go}
use Rattle.law_answer_steps.proofs.laws.answers_step.Goals as goal

pub returns : goal.returns
returns c =
    answers_go c.answered_fixes_mend.ensures.stand
    (record {
      builds_step = c.fixes_step.ensures.builds;
      dropped_step = c.fixes_step.ensures.dropped;
      rebuilt_step = c.fixes_step.ensures.rebuilt;
      detached_step = c.fixes_step.ensures.detached;
      varchars_step = c.fixes_step.ensures.varchars;
      timestamps_step = c.fixes_step.ensures.timestamps;
      ints_step = c.fixes_step.ensures.ints;
      smallints_step = c.fixes_step.ensures.smallints;
      timeouts_step = c.fixes_step.ensures.timeouts;
    })
