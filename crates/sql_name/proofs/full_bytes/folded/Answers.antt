use Rattle.std.proofs.Common.{◌≡◌, subst, sym, ◌∙◌, ap, ◌++◌}
use Rattle.std.proofs.lemmas.List.{append-nil}
use Rattle.std.specs.Str.{IsUtf8}
use Rattle.sql_name.specs.Name.{full_name}
use Rattle.sql_name.proofs.FullText.{IsUtf8-full_name}
use Rattle.sql_name.proofs.full_bytes.folded.Goals as goal

pub unwrap-requires : goal.unwrap-requires
unwrap-requires c =
    let items : c.loop-byte.bytes.items ≡ full_name c.args.text.now =
    sym (append-nil c.loop-byte.bytes.items) ∙ ap (λ l. c.loop-byte.bytes.items ++ l) (sym c.in-None.ensures.steps.0) ∙ c.loop-byte.invariant in
    c.from_utf8.ensures.succeeds (subst IsUtf8 (sym items) (IsUtf8-full_name c.args.text.now c.utf8.text))
