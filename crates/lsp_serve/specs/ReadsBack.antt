-- What is written for a message reads back as the message, whatever comes after it.
use Rattle.std.specs.Prelude.{◌≡◌, ℕ, ◌+◌, List, ◌++◌, length, slice_range, Ok}
use Rattle.lsp_serve.specs.declared.front.Front.TheVariants.{Whole}
use Rattle.lsp_serve.specs.Frame.{frame, front_of}

-- A frame and the rest begin with a whole message, and it has this content.
pub record ReadsBack (content rest : List ℕ) : Type 0 where
  pub start : ℕ
  pub front : front_of (frame content ++ rest) ≡ Ok (Whole start (start + length content))
  pub content_is : slice_range (frame content ++ rest) start (start + length content) ≡ content
