use Rattle.std.proofs.Common.{sym, subst, All}
use Rattle.std.specs.List.{slice_split}
use Rattle.fs_model.specs.Names.{IsName}
use Rattle.script_text.specs.PathTexts.{is_slash}
use Rattle.script_text.proofs.Pieces.{pieces_free, pieces_names, all_of_map}
use Rattle.script_text.proofs.paths.parse_names.Goals as goal

pub path_of_pieces-requires : goal.path_of_pieces-requires
path_of_pieces-requires c =
    let names = pieces_names (slice_split is_slash c.args.rest.now) (sym c.if-has_piece_empty.ensures) (sym c.if-has_piece_of_dots.ensures) (sym c.if-has_piece_long.ensures) (pieces_free c.args.rest.now c.requires) in
    subst (λ ps. All (λ piece. IsName piece.now) ps) (sym c.deref.ensures.value)
    (all_of_map (λ piece. piece.now) IsName c.in_ok-pieces.pieces.items (subst (λ ns. All IsName ns) (sym c.in_ok-pieces.ensures) names))
