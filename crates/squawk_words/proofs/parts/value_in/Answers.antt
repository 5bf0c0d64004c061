use Rattle.std.proofs.Common.{arith, refl}
use Rattle.std.specs.Prelude.{◌==◌}
use Rattle.squawk_words.proofs.Signs.{none_there}
use Rattle.squawk_words.proofs.parts.value_in.Goals as goal

pub returns-in-None : goal.returns-in-None
returns-in-None c =
    let e = c.in-None.ensures.byte (omega arith) (λ w o h. h) in
    rw (none_there (λ b. b == 61) c.args.text.now e) refl
