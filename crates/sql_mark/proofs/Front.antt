-- What was read, before what is still to be read.
use Rattle.std.proofs.Common.{List, ◌++◌, Option, Some, None}

abbrev pub with_prefix : {A : Type 0} → List A → Option (List A) → Option (List A)
with_prefix front None = None
with_prefix front (Some xs) = Some (front ++ xs)
