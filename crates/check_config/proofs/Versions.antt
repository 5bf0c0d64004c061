-- Parts of a version, as they are read.
use Rattle.std.proofs.Common.{◌≡◌, ◌≤◌, refl, List, length, map, Bor, le-leb}
use Rattle.std.proofs.lemmas.List.{length-map}
use Rattle.std.proofs.lemmas.List.Folds.{list_all-map}
use Rattle.std.specs.List.{list_all}
use Rattle.squawk_run.specs.squawk_words.Words.{Text}
use Rattle.check_config.specs.Config.{is_part, is_version}

pub short_version : (parts : List (Bor Text)) → length parts ≤ 3 → list_all (λ part. is_part part.now) parts ≡ is_version (map (λ part. part.now) parts)
short_version parts short =
    rw (length-map parts (λ (part : Bor Text). part.now), le-leb (length parts) 3 short, list_all-map is_part (λ (part : Bor Text). part.now) parts) refl
