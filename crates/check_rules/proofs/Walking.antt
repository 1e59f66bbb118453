-- What the walk over one reached blob found, as a flaw of the whole.
use Rattle.std.proofs.Common.{◌≡◌, ℕ, Bool, true, false, cond, List, [], ◌∷◌, map, refl, sym, ◌∙◌, ap, inl, inr}
use Rattle.std.specs.FinMap.{find}
use Rattle.std.specs.declared.option.Option.TheVariants.{Some}
use Rattle.std.proofs.lemmas.Bool.{or_left, or_right}
use Rattle.check_walk.proofs.Leading.{leads_to}
use Rattle.check_walk.specs.declared.flaw.Flaw.{Flaw}
use Rattle.check_walk.specs.declared.flaw.Flaw.TheVariants.{BadNode, BadBlob, Parent, Twice, NotLive, Unowned}
use Rattle.check_walk.specs.Given.{Given, AgreesWith, content_of}
use Rattle.check_walk.specs.Halts.{FlawAt}
use Rattle.check_walk.specs.Marks.{MarkList}
use Rattle.check_walk.specs.Needs.{NodeNeed, top, Leads}
use Rattle.check_walk.specs.data_tree.Stored.{BlobTree}
use Rattle.check_walk.specs.data_tree.Trees.{NoDoubles}
use Rattle.check_walk.proofs.data_tree_lemmas.Ids.{same_self}
use Rattle.fs_model.specs.declared.attr.Kind.{Kind}
use Rattle.fs_model.specs.Tree.{Path}
use Rattle.check_walk.specs.store_api.Content.{Id, Content, id_cmp, same_id}
use Rattle.check_walk.specs.store_api.Holdings.{has_id}
use Rattle.check_walk.proofs.store_api_lemmas.Rising.{same_id_is}
use Rattle.check_rules.specs.Flaws.{HasFlaw}
use Rattle.check_rules.specs.Marked.{MarksOthers}
use Rattle.check_rules.specs.Reached.{IsReached, Place, NeedsNode}

-- each block of a reached blob has its place
pub block_place : (payload : ℕ) (root : Id) (G : Content) (path : Path) (kind : Kind) (id parent : Id) → IsReached payload G root path kind id parent → (w : List ℕ) (ids : List Id) → BlobTree payload G id w ids → (x : Id) → has_id ids x ≡ true
    → (way : List ℕ) × ((need : NodeNeed) × NeedsNode payload G root (record { path = path; way = way }) x need)
block_place payload root G path kind id parent reached w ids b x h =
    let to = leads_to payload G b.depth id w ids b.tree top x h in
    (to.0, (to.1.0, record { kind = kind; start = id; parent = parent; reached = reached; leads = to.1.1 }))

module _ (payload : ℕ) (root : Id) (live : List Id) (G : Content) (path : Path) (kind : Kind) (id parent : Id) (marks : MarkList) (held : Content)
    (reached : IsReached payload G root path kind id parent) (others : MarksOthers payload root live G path marks held) where
  at_place : (way : List ℕ) (x : Id) (need : NodeNeed) → Leads G id top way x need → NeedsNode payload G root (record { path = path; way = way }) x need
  at_place way x need leads = record { kind = kind; start = id; parent = parent; reached = reached; leads = leads }

  pub walk_flaw : (flaw : Flaw) → FlawAt payload G marks held (Leads G id top) flaw → HasFlaw payload root live G flaw
  walk_flaw (BadNode bad) f = record { place = record { path = path; way = f.way }; need = f.need; needs = at_place f.way bad.0 f.need f.reached; text = f.text; there = f.there; unfit = f.unfit }
  walk_flaw (Twice bad) f = elim f.again [
    | inl before ↦
        let other = others.owned bad.0 before in
        record {
          one = record { path = path; way = f.way };
          other = other.place;
          apart = λ e. other.apart (sym (ap (λ (p : Place). p.path) e));
          need = f.need;
          wanted = other.need;
          needs = at_place f.way bad.0 f.need f.reached;
          wants = other.needs;
        }
    | inr here ↦ record {
      one = record { path = path; way = f.way };
      other = record { path = path; way = here.0 };
      apart = λ e. here.1.1.1 (sym (ap (λ (p : Place). p.way) e));
      need = f.need;
      wanted = here.1.0;
      needs = at_place f.way bad.0 f.need f.reached;
      wants = at_place here.0 bad.0 here.1.0 here.1.1.0;
    }
  ]
  walk_flaw (NotLive bad) f = record {
    place = record { path = path; way = f.way };
    need = f.need;
    needs = at_place f.way bad.0 f.need f.reached;
    dead = elim f.absent [ inl none ↦ others.dead bad.0 none | inr gone ↦ sym (others.holds bad.0) ∙ gone ];
  }
  walk_flaw (BadBlob bad) f = absurd f
  walk_flaw (Parent bad) f = absurd f
  walk_flaw (Unowned bad) f = absurd f

-- ---- what was given, each id once, agrees with itself

agrees_as : (C B : Content) (given : Given) → ((x : Id) → has_id (map (λ g. g.0) given) x ≡ true → B x ≡ C x) → AgreesWith C given → AgreesWith B given
agrees_as C B [] same agrees = tt
agrees_as C B (g ∷ gs) same agrees = (same g.0 (or_left (same_id g.0 g.0) (has_id (map (λ g. g.0) gs) g.0) (same_self g.0)) ∙ agrees.0, agrees_as C B gs (λ x h. same x (or_right (same_id x g.0) (has_id (map (λ g. g.0) gs) x) h)) agrees.1)

pub agrees_self : (given : Given) → NoDoubles (map (λ g. g.0) given) → AgreesWith (content_of given) given
agrees_self [] alone = tt
agrees_self (g ∷ gs) alone = (ap (λ b. cond b (Some g.1) (find id_cmp g.0 gs)) (same_self g.0), agrees_as (content_of gs) (content_of (g ∷ gs)) gs later (agrees_self gs alone.1))
  where
    later : (x : Id) → has_id (map (λ g. g.0) gs) x ≡ true → cond (same_id x g.0) (Some g.1) (find id_cmp x gs) ≡ find id_cmp x gs
    later x h = by (same_id x g.0) refl
      where
        by : (b : Bool) → same_id x g.0 ≡ b → cond b (Some g.1) (find id_cmp x gs) ≡ find id_cmp x gs
        by true same = let bad : true ≡ false = sym h ∙ (ap (has_id (map (λ g. g.0) gs)) (same_id_is x g.0 same) ∙ alone.0) in absurd (cc)
        by false same = refl
