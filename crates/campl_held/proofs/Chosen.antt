-- In a well declared source a type's choices hold at a constructor what its own declaration says.
use Rattle.std.proofs.Common.{◌≡◌, ◌∙◌, refl, sym, ap, Bool, true, false, if◌then◌else◌, List, [], ◌∷◌, Option, Some, None, map}
use Rattle.campl_tree.specs.declared.decl.ProtocolDecl as protocol_decl
use Rattle.campl_tree.specs.declared.decl.CoprotocolDecl as coprotocol_decl
use Rattle.campl_tree.specs.declared.decl.ProtocolConstructor as protocol
use Rattle.campl_tree.specs.declared.decl.CoprotocolConstructor as coprotocol
use Rattle.campl_tree.specs.View.{view_protocol, view_protocol_constructor, view_coprotocol, view_coprotocol_constructor}
use Rattle.campl_tree.specs.Plain.SeqType.{SeqType}
use Rattle.campl_tree.specs.Plain.ChanType.{ChanType}
use Rattle.campl_tree.specs.Plain.Decl.{Program, ProtocolDecl, CoprotocolDecl, ProtocolConstructor, CoprotocolConstructor}
use Rattle.campl_types.specs.Names.{Name, same_name, found}
use Rattle.campl_types.specs.Polarity.{line, after}
use Rattle.campl_types.specs.Twice.{declared_from, twice_among}
use Rattle.campl_types.specs.WellDeclared.{IsWellDeclared}
use Rattle.campl_types.specs.World.{World, world_of, TypeEntry, DataType, ProtocolType, CoprotocolType, type_named, ConstructorEntry, OfData, OfProtocol, OfCoprotocol, constructor_named}
use Rattle.campl_types.proofs.Names.{same-is}
use Rattle.campl_types.proofs.DeclaredOnce.{owner-named, once-declared}
use Rattle.campl_linear.specs.Remains.{remains_of, remains}
use Rattle.campl_linear.proofs.Choices.{protocol-choices-declared, coprotocol-choices-declared}
use Rattle.campl_held.specs.Chosen.{choices_of, choice_names, belongs, ChoicesAreDeclared}

module _ (w : World) (once : twice_among [] (declared_from 0 w) ≡ []) (x k : Name) (ts : List SeqType) where
  -- at a name of no protocol or coprotocol nothing remains
  none-remains : (t : Option TypeEntry) → type_named w x ≡ t → ((d : ProtocolDecl) → t ≡ Some (ProtocolType d) → ⊥) → ((d : CoprotocolDecl) → t ≡ Some (CoprotocolType d) → ⊥)
      → None ≡ remains w x k ts
  none-remains t named no-protocol no-coprotocol = go (constructor_named w k) refl
    where
      protocol : (d : ProtocolDecl) (c : ConstructorEntry) (u : ChanType) (b : Bool) → type_named w d.name.name ≡ Some (ProtocolType d) → same_name d.name.name x ≡ b → None ≡ (if b then Some u else None)
      protocol d c u true own s = absurd (no-protocol d (sym named ∙ ap (type_named w) (sym (same-is d.name.name x s)) ∙ own))
      protocol d c u false own s = refl

      coprotocol : (d : CoprotocolDecl) (c : ConstructorEntry) (u : ChanType) (b : Bool) → type_named w d.name.name ≡ Some (CoprotocolType d) → same_name d.name.name x ≡ b → None ≡ (if b then Some u else None)
      coprotocol d c u true own s = absurd (no-coprotocol d (sym named ∙ ap (type_named w) (sym (same-is d.name.name x s)) ∙ own))
      coprotocol d c u false own s = refl

      go : (o : Option ConstructorEntry) → constructor_named w k ≡ o → None ≡ remains_of x o ts
      go None e = refl
      go (Some (OfData d n c)) e = refl
      go (Some (OfProtocol d n c)) e =
          protocol d (OfProtocol d n c) (line d.local d.name d.parameters ts c.channel_type) (same_name d.name.name x)
          (owner-named w once k (OfProtocol d n c) (ProtocolType d) e refl) refl
      go (Some (OfCoprotocol d n c)) e =
          coprotocol d (OfCoprotocol d n c) (line d.local d.name d.parameters ts c.channel_type) (same_name d.name.name x)
          (owner-named w once k (OfCoprotocol d n c) (CoprotocolType d) e refl) refl

choices-remain : (source : Program) → IsWellDeclared source → (x k : Name) (ts : List SeqType) → found k (choices_of (type_named (world_of source) x) ts) ≡ remains (world_of source) x k ts
choices-remain source i x k ts = go (type_named (world_of source) x) refl
  where
    go : (t : Option TypeEntry) → type_named (world_of source) x ≡ t → found k (choices_of t ts) ≡ remains (world_of source) x k ts
    go (Some (ProtocolType d)) e = protocol-choices-declared source i x d e k ts
    go (Some (CoprotocolType d)) e = coprotocol-choices-declared source i x d e k ts
    go (Some (DataType d)) e = none-remains (world_of source) (once-declared source i) x k ts (Some (DataType d)) e (λ p j. cc j) (λ p j. cc j)
    go None e = none-remains (world_of source) (once-declared source i) x k ts None e (λ p j. cc j) (λ p j. cc j)

-- in a well declared source each choice is as it is declared
pub declared-choices : (source : Program) → IsWellDeclared source → ChoicesAreDeclared (world_of source)
declared-choices source i = record { remain = choices-remain source i }

-- By the look-up of a constructor and what remains behind it

remains-so : (x k : Name) (o : Option ConstructorEntry) (w : World) (ts : List SeqType) → constructor_named w k ≡ o → remains w x k ts ≡ (if belongs x o then after w k ts else None)
remains-so x k None w ts e = ap (λ o. remains_of x o ts) e
remains-so x k (Some (OfData d n c)) w ts e = ap (λ o. remains_of x o ts) e
remains-so x k (Some (OfProtocol d n c)) w ts e = rw e refl
remains-so x k (Some (OfCoprotocol d n c)) w ts e = rw e refl

module _ (w : World) (so : ChoicesAreDeclared w) (x k : Name) (ts : List SeqType) where
  pub remains-there : (o : Option ChanType) → true ≡ belongs x (constructor_named w k) → o ≡ after w k ts → o ≡ found k (choices_of (type_named w x) ts)
  remains-there o b i = i ∙ ap (λ c. if c then after w k ts else None) b ∙ sym (remains-so x k (constructor_named w k) w ts refl) ∙ sym (so.remain x k ts)

  pub remains-nowhere : false ≡ belongs x (constructor_named w k) → None ≡ found k (choices_of (type_named w x) ts)
  remains-nowhere b = ap (λ c. if c then after w k ts else None) b ∙ sym (remains-so x k (constructor_named w k) w ts refl) ∙ sym (so.remain x k ts)

pub ruleset remaining = (remains-there, remains-nowhere)

-- The names of lines

protocol-names : (f : ProtocolConstructor → ChanType) (ks : List protocol.ProtocolConstructor)
    → map (λ (k : protocol.ProtocolConstructor). k.name.name) ks ≡ choice_names (map (λ (k : ProtocolConstructor). (k.name.name, f k)) (map view_protocol_constructor ks))
protocol-names f [] = refl
protocol-names f (k ∷ ks) = ap (λ ns. k.name.name ∷ ns) (protocol-names f ks)

coprotocol-names : (f : CoprotocolConstructor → ChanType) (ks : List coprotocol.CoprotocolConstructor)
    → map (λ (k : coprotocol.CoprotocolConstructor). k.name.name) ks ≡ choice_names (map (λ (k : CoprotocolConstructor). (k.name.name, f k)) (map view_coprotocol_constructor ks))
coprotocol-names f [] = refl
coprotocol-names f (k ∷ ks) = ap (λ ns. k.name.name ∷ ns) (coprotocol-names f ks)

module _ (ts : List SeqType) (t : Option TypeEntry) where
  pub protocol-lines : (d : protocol_decl.ProtocolDecl) (ks : List protocol.ProtocolConstructor) → Some (ProtocolType (view_protocol d)) ≡ t → ks ≡ d.constructors
      → map (λ (k : protocol.ProtocolConstructor). k.name.name) ks ≡ choice_names (choices_of t ts)
  protocol-lines d ks i j =
      protocol-names (λ k. line d.local d.name d.parameters ts k.channel_type) ks
      ∙ ap (λ ls. choice_names (map (λ (k : ProtocolConstructor). (k.name.name, line d.local d.name d.parameters ts k.channel_type)) (map view_protocol_constructor ls))) j
      ∙ ap (λ o. choice_names (choices_of o ts)) i

  pub coprotocol-lines : (d : coprotocol_decl.CoprotocolDecl) (ks : List coprotocol.CoprotocolConstructor) → Some (CoprotocolType (view_coprotocol d)) ≡ t → ks ≡ d.constructors
      → map (λ (k : coprotocol.CoprotocolConstructor). k.name.name) ks ≡ choice_names (choices_of t ts)
  coprotocol-lines d ks i j =
      coprotocol-names (λ k. line d.local d.name d.parameters ts k.channel_type) ks
      ∙ ap (λ ls. choice_names (map (λ (k : CoprotocolConstructor). (k.name.name, line d.local d.name d.parameters ts k.channel_type)) (map view_coprotocol_constructor ls))) j
      ∙ ap (λ o. choice_names (choices_of o ts)) i
