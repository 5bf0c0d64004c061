-- What was read is kept, before what the source has left.
use Rattle.std.proofs.Common.{◌∙◌, ℕ, ◌≤◌, List, Some, None, arith}
use Rattle.std.specs.declared.option.Option.{Option}
use Rattle.std.specs.Io.KnownBytes.{Consumes, prepend_known}
use Rattle.lsp_serve.specs.declared.reader.FrameError.{FrameError}
use Rattle.lsp_serve.specs.declared.reader.FrameError.TheVariants as stop
use Rattle.lsp_serve.specs.Reading.{StopFits}

-- what is kept after a step is what was to come first before all steps
pub kept_on : (a b c : Option (List ℕ)) (u v : List ℕ) → Consumes a b u → Consumes (prepend_known u b) c v → Consumes a c v
kept_on None b c u v p q = tt
kept_on (Some x) None c u v p q = absurd p
kept_on (Some x) (Some y) None u v p q = absurd q
kept_on (Some x) (Some y) (Some z) u v p q = p ∙ q

-- the cause of an error that a step met is a cause for all steps
pub stops_on : (e : FrameError) (a b c : Option (List ℕ)) (u v : List ℕ) (f g h : ℕ)
    → Consumes a b u → f ≤ g → StopFits e (prepend_known u b) v c g h → StopFits e a v c f h
stops_on (stop.Fault fault) a b c u v f g h p later s = (kept_on a b c u v p s.0, s.1)
stops_on stop.CutOff a b c u v f g h p later s = record { kept = kept_on a b c u v p s.kept; ended = s.ended; partial = s.partial; some = s.some }
stops_on stop.ReadFault a b c u v f g h p later s = omega (arith, s)
stops_on stop.NoMemory a b c u v f g h p later s = tt
