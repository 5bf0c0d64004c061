use Rattle.std.proofs.Common.{◌≡◌, ◌++◌, All}
use Rattle.std.specs.List.{AllZip}
use Rattle.std.specs.Vec.Iter.{into_iter_items}
use Rattle.checked_file.specs.Sound.{IsSound}
use Rattle.check_baseline.specs.Known.{IsLeft}
use Rattle.check_baseline.proofs.known.without_known.Given as goal

-- what is left of the files so far, and the other files
abbrev pub invariant-loop-file : goal.invariant-loop-file
invariant-loop-file l = record {
  others : l.fn.files.items ≡ l.yielded ++ into_iter_items l.file-iterator;
  left : AllZip (IsLeft l.baseline) l.yielded l.all.items;
  sound : All IsSound l.all.items;
  sound_others : All IsSound (into_iter_items l.file-iterator);
}
