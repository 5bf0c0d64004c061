use Rattle.std.proofs.Common.{◌≡◌, ◌∙◌, ap, arith, length, min, take}
use Rattle.std.proofs.lemmas.List.{take_min}
use Rattle.memchr.proofs.lemmas.ValueLemmas.{FindsNeedle-value}
use Rattle.memchr.specs.Find.{matches, first_of}
use Rattle.lsp_serve.proofs.Finding.{found_in_front}
use Rattle.lsp_serve.specs.Frame.{blank_line}
use Rattle.lsp_serve.proofs.front.header_end.Goals as goal

pub returns : goal.returns
returns c =
    let bytes = c.args.bytes.now in
    let swapped : min (length bytes) 4096 ≡ min 4096 (length bytes) = omega arith in
    let looked_at : take c.min-looked_at.result bytes ≡ take 4096 bytes
    = ap (λ n. take n bytes) (c.min-looked_at.ensures ∙ swapped) ∙ take_min 4096 bytes in
    record {
      value = FindsNeedle-value _ _ c.find.result c.find.ensures ∙ ap (λ hay. first_of (matches hay blank_line 0)) looked_at;
      within = found_in_front bytes blank_line c.min-looked_at.result c.find.result c.find.ensures;
    }
