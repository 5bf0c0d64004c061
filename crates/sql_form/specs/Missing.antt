-- Words that a part may take.
use Rattle.std.specs.Prelude.{Bool, false, ◌||◌, List, [], ◌∷◌}
use Rattle.sql_tree.specs.sql_token.declared.terminal.Terminal.{Terminal}
use Rattle.sql_tree.specs.Forms.{is_temp, is_other_mod}

-- whether one of the words of Mods comes first
abbrev pub begins_with_mod : List Terminal → Bool
begins_with_mod [] = false
begins_with_mod (t ∷ ts) = is_temp t || is_other_mod t
