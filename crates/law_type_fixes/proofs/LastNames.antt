-- Where the last name of a column type becomes a word, and neither is a key word, the statement's types are the old ones.
use Rattle.std.proofs.Common.{◌≡◌, Bool, true, false, List, ◌++◌, ◌∷◌, refl, sym, ap, ◌∙◌}
use Rattle.std.specs.Option.{option_to_list}
use Rattle.pass_data_type.specs.sql_token.Token.{text_of}
use Rattle.pass_data_type.specs.sql_tree.declared.kinds.PieceKind.TheVariants as piece
use Rattle.pass_data_type.specs.sql_tree.declared.kinds.StmtKind.TheVariants as stmt
use Rattle.pass_data_type.specs.sql_tree.declared.nodes.ColType.{ColType}
use Rattle.pass_data_type.specs.sql_tree.declared.nodes.Elem.{Elem}
use Rattle.pass_data_type.specs.sql_tree.declared.nodes.Stmt.{Stmt}
use Rattle.pass_data_type.specs.sql_tree.Nodes.{actions_in, elements_in}
use Rattle.pass_data_type.specs.sql_tree.Range.{token_at}
use Rattle.law_edit_types.specs.Created.{table_of}
use Rattle.law_edit_types.specs.Named.{HasType}
use Rattle.law_edit_types.specs.Named.HasType.{created, added, altered}
use Rattle.law_edit_types.proofs.Named.{name_reads}
use Rattle.pass_data_type.specs.lint_node.ColumnTypes.{action_types, added_type, column_types, element_type, piece_types, set_type}
use Rattle.pass_data_type.specs.lint_node.Same.{same_kind}
use Rattle.law_type_fixes.specs.Words.{NamesBecomeWords}
use Rattle.law_type_fixes.proofs.Homes.{Half, half, Home, home, only}
use Rattle.law_type_fixes.proofs.Homes.Half.{left, right}
use Rattle.law_type_fixes.proofs.Inners.{adds, alter_body, altered_types, kind_is, listed, made_types, none_of, other_types, piece_is, sets, table_body}
use Rattle.law_type_fixes.proofs.KeyWords.{free_symbol}

-- Each column type of a statement is in one of its columns, or in a SET TYPE.
pub has_type : (st : Stmt) (earlier : List ColType) (ty : ColType) (later : List ColType) → column_types st ≡ earlier ++ ty ∷ later → HasType st ty
has_type st earlier ty later cut = by (same_kind st.kind stmt.CreateTable) (same_kind st.kind stmt.AlterTable) refl refl
  where
    in_table : st.kind ≡ stmt.CreateTable → Home (λ e. option_to_list (element_type e)) (elements_in st.body) earlier ty later → HasType st ty
    in_table kind h =
        let o = only (element_type h.node) h.pre ty h.post h.here in
        let c = listed h.node ty o.is in
        let b = table_body st.body h.front h.node h.back h.parts in
        created b.0 h.front c.column h.back kind (b.1 ∙ ap (λ (x : Elem). table_of b.0 (h.front ++ x ∷ h.back)) c.is) c.ty_is

    in_action : st.kind ≡ stmt.AlterTable → Home action_types (actions_in st.body) earlier ty later → HasType st ty
    in_action kind h = by_part (half (option_to_list (added_type h.node)) (piece_types h.node.pieces) h.pre ty h.post h.here)
      where
        by_part : Half (option_to_list (added_type h.node)) (piece_types h.node.pieces) h.pre ty h.post → HasType st ty
        by_part (left more p q) =
            let b = alter_body st.body h.front h.node h.back h.parts in
            let c = adds h.node ty (only (added_type h.node) h.pre ty more p).is in
            added b.0 h.front h.node h.back c.column kind b.1 c.is c.ty_is
        by_part (right more p q) =
            let b = alter_body st.body h.front h.node h.back h.parts in
            let g = home (λ x. option_to_list (set_type x)) h.node.pieces more ty h.post q in
            let s = sets g.node ty (only (set_type g.node) g.pre ty g.post g.here).is in
            altered b.0 h.front h.node h.back g.front g.node g.back kind b.1 g.parts (piece_is g.node.kind piece.SetType s.kind) s.ty_is

    by : (x y : Bool) → same_kind st.kind stmt.CreateTable ≡ x → same_kind st.kind stmt.AlterTable ≡ y → HasType st ty
    by true y p q =
        let kind = kind_is st.kind stmt.CreateTable p in
        in_table kind (home (λ e. option_to_list (element_type e)) (elements_in st.body) earlier ty later (sym (made_types st kind) ∙ cut))
    by false true p q =
        let kind = kind_is st.kind stmt.AlterTable q in
        in_action kind (home action_types (actions_in st.body) earlier ty later (sym (altered_types st kind) ∙ cut))
    by false false p q = absurd (none_of earlier ty later (sym (other_types st p q) ∙ cut))

pub names_become_words : NamesBecomeWords
names_become_words tree before st after earlier ty later w is parts cut path free name symbol apart short =
    name_reads tree before st after ty w is parts (has_type st earlier ty later cut) path
    (free_symbol (token_at tree.toks ty.name).kind (text_of tree.text (token_at tree.toks ty.name)) free) name symbol apart short
