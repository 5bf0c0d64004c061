-- What is known of a run by its end.
use Rattle.std.proofs.Common.{◌≡◌, ◌<◌, ◌≤◌, ◌^◌, ap, refl, subst, sym, ℕ, List, Option, Some, None, IfSome, arith, length, length-append}
use Rattle.devices.specs.Faults.{Rose}
use Rattle.devices.specs.Reading.{Took}
use Rattle.squawk_run.specs.declared.stop.Stop.TheVariants.{BadArguments, NotUtf8, TooLong, ReadFault, WriteFault, NoMemory}
use Rattle.squawk_run.specs.Ends.{End, Finished, Refused, Stopped, IsDone, ReadFor, SinkCause, SourceCause, WordsFor}

-- ---- inputs

-- what holds of the input that was read holds of all that was left
pub where_same : (left : Option (List ℕ)) (input : List ℕ) (P : List ℕ → Type 0) → IfSome left (λ t. t ≡ input) → P input → IfSome left P
where_same None input P is h = tt
where_same (Some t) input P is h = subst P (sym is) h

-- what was taken of an input is no longer than the input
pub took_fits : (t : List ℕ) (b : Option (List ℕ)) (n : ℕ) → Took (Some t) b n → n ≤ length t
took_fits t None n k = absurd k.taken
took_fits t (Some y) n k = omega (arith, k.many, ap length k.taken, length-append k.bytes y)

-- ---- where nothing fails

-- A run whose words are taken, whose input is short, is text and is not refused, and in which no device failed, is done.
pub done_by : (e : End) (taken : Type 0) (t : List ℕ) (b : Option (List ℕ)) (f g h k : ℕ) → WordsFor e taken → ReadFor e (Some t) b → SourceCause e f g → SinkCause e h k
    → taken → ¬ (Rose f g) → ¬ (Rose h k) → length t < 2 ^ 32 → (e ≡ Refused → ⊥) → (e ≡ Stopped NotUtf8 → ⊥) → IsDone e
done_by Finished taken t b f g h k w r source sink takes ns nk short fits text = tt
done_by Refused taken t b f g h k w r source sink takes ns nk short fits text = absurd (fits refl)
done_by (Stopped BadArguments) taken t b f g h k w r source sink takes ns nk short fits text = absurd (w takes)
done_by (Stopped NotUtf8) taken t b f g h k w r source sink takes ns nk short fits text = absurd (text refl)
done_by (Stopped TooLong) taken t b f g h k w r source sink takes ns nk short fits text =
    let most = took_fits t b (2 ^ 32) r in absurd (omega (arith, most, short))
done_by (Stopped ReadFault) taken t b f g h k w r source sink takes ns nk short fits text = absurd (ns source)
done_by (Stopped WriteFault) taken t b f g h k w r source sink takes ns nk short fits text = absurd (nk sink)
done_by (Stopped NoMemory) taken t b f g h k w r source sink takes ns nk short fits text = tt
