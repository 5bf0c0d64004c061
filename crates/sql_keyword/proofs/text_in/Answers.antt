use Rattle.std.proofs.Common.{◌∙◌, subst, sym, ap, ℕ, ◌+◌, ◌≤◌, length}
use Rattle.sql_keyword.specs.Letters.{AreCapitals}
use Rattle.sql_keyword.specs.Slots.{start_of, text_at}
use Rattle.sql_keyword.specs.declared.slots.TheConstants.{TEXTS}
use Rattle.sql_keyword.proofs.Entries.{within, capitals}
use Rattle.sql_keyword.proofs.text_in.Goals as goal

pub text_at-requires : goal.text_at-requires
text_at-requires c =
    let P : ℕ → Type 0 = λ s. s + c.length_of.result ≤ length TEXTS.now in
    let Q : ℕ → Type 0 = λ l. start_of c.args.slot + l ≤ length TEXTS.now in
    subst P (sym c.start_of.ensures) (subst Q (sym c.length_of.ensures) (within c.args.slot c.requires))

pub returns-clause-capitals : goal.returns-clause-capitals
returns-clause-capitals c = subst AreCapitals (sym (c.text_at.ensures ∙ ap (λ s. text_at s c.length_of.result) c.start_of.ensures ∙ ap (λ l. text_at (start_of c.args.slot) l) c.length_of.ensures)) (capitals c.args.slot c.requires)
