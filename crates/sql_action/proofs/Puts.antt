-- An action that is read in one way or else in another, and put after those that were read.
use Rattle.std.proofs.Common.{◌≡◌, true, false, true≢false, List, Option, Some, None, ap, sym}
use Rattle.sql_tree.specs.Forms.{either_of}
use Rattle.sql_action.specs.Puts.{put_after}

pub first_put : {A : Type 0} (o p : Option A) (before after : List A) → (true, after) ≡ put_after o before → (true, after) ≡ put_after (either_of o p) before
first_put (Some x) p before after h = h
first_put None p before after h = absurd (true≢false (ap (λ r. r.0) h))

pub other_put : {A : Type 0} (o p : Option A) (before after : List A) → (false, after) ≡ put_after o before → put_after (either_of o p) before ≡ put_after p after
other_put (Some x) p before after h = absurd (true≢false (sym (ap (λ r. r.0) h)))
other_put None p before after h = ap (put_after p) (sym (ap (λ r. r.1) h))
