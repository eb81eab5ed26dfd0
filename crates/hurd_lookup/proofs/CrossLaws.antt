-- Crossing the root of a server, by what the server is.
use Rattle.std.proofs.Common.{◌≡◌, ◌∙◌, ℕ, Bool, true, false, not, ◌&&◌, is_some, if◌then◌else◌, List, Option, Some, None, option_map, sym, ap, ap₂}
use Rattle.std.specs.Prelude.{Result, Ok, slice_get}
use Rattle.hurd_machine.proofs.Common.{Attrs, Crossing, EDIED, Errno, Firm, Header, Name, ServerInfo, World, asks, first, header_at, info_at, on, targets_at, targets_in, words_at}
use Rattle.hurd_creds.specs.Bits.{NOLINK}
use Rattle.hurd_trans_iface.specs.Meaning.{root_of}
use Rattle.hurd_trans_iface.specs.declared.root.Root.{Root}
use Rattle.hurd_trans_iface.specs.declared.root.Crossing.TheVariants.{Link}
use Rattle.hurd_nodes.proofs.PartLaws.{mapped-some}
use Rattle.hurd_core.specs.PortNode.{header_with}
use Rattle.hurd_lookup.specs.declared.request.Request.{Request}
use Rattle.hurd_lookup.specs.Lookup.{Authority, Outcome, cross, crossing, enter, follow, hold_on, is_last}
use Rattle.hurd_lookup.specs.Ends.{IsHere, text_at, text_by}
use Rattle.hurd_lookup.specs.declared.here.Here.{Here}

-- a node whose attributes are told is there
pub there : (w : World) (n : Name) (o : Option Attrs) (b : Bool) → is_some o ≡ not b → b ≡ false → option_map (header_with (words_at w n)) o ≡ header_at w n → (h : Header) × (header_at w n ≡ Some h)
there w n None b some off told = absurd (cc)
there w n (Some a) b some off told = (header_with (words_at w n) a, sym told)

-- the same of one that was asked on the way
pub here_there : (w : World) (n : Name) (x : Here) → x.node ≡ n → IsHere w x → (b : Bool) → is_some x.attrs ≡ not b → b ≡ false → (h : Header) × (header_at w n ≡ Some h)
here_there w n x at is b some off = let h = there w x.node x.attrs b some off is.0 in (h.0, ap (header_at w) (sym at) ∙ h.1)

module _ (w : World) (root : Name) (h : Header) (there : header_at w root ≡ Some h) (x : Root) (is : Some x ≡ option_map (λ (i : ServerInfo). root_of i.kind i.text) (info_at w root)) where
  -- the server whose root it is
  pub info-of : (i : ServerInfo) × (info_at w root ≡ Some i) × (root_of i.kind i.text ≡ x)
  info-of = mapped-some _ (info_at w root) x (sym is)

  module _ (q : Authority) (r : Request) (d : Name) (names : List (List ℕ)) where
    abbrev crossed : Option Header → Option ServerInfo → Result Outcome Errno
    crossed o s = first (on EDIED o (λ g. on EDIED s (λ i. Ok i))) (λ i. crossing w (root_of i.kind i.text).crossing q r d root i names)

    abbrev by_crossing : Crossing → Result Outcome Errno
    by_crossing y = crossing w y q r d root info-of.0 names

    pub served : (y : Crossing) → x.crossing ≡ y → cross w q r d root names ≡ by_crossing y
    unfolding on first
    served y is =
        let i = info-of in
        ap₂ crossed there i.1 ∙ ap (λ (z : Root). by_crossing z.crossing) i.2 ∙ ap by_crossing is

    pub cross-firm : (targets : List Name) (o : Option Name) → x.crossing ≡ Firm → targets ≡ targets_at w root → o ≡ slice_get targets 0 → cross w q r d root names ≡ hold_on w q r d o names
    cross-firm targets o firm told first_is =
        served Firm firm ∙ ap (λ (n : Option Name). hold_on w q r d n names) (sym (first_is ∙ ap (λ (ns : List Name). slice_get ns 0) (told ∙ ap targets_in info-of.1)))

    pub cross-final : (a : Bool) → x.crossing ≡ Link a → true ≡ (is_last names && asks r.flags NOLINK) → cross w q r d root names ≡ enter w q r d root names
    cross-final a link final = served (Link a) link ∙ ap (λ (b : Bool). if b then enter w q r d root names else follow a q r d info-of.0.text names) (sym final)

    pub cross-along : (a : Bool) → x.crossing ≡ Link a → false ≡ (is_last names && asks r.flags NOLINK) → cross w q r d root names ≡ follow a q r d (text_at w root) names
    cross-along a link final =
        served (Link a) link
        ∙ ap (λ (b : Bool). if b then enter w q r d root names else follow a q r d info-of.0.text names) (sym final)
        ∙ ap (λ (text : List ℕ). follow a q r d text names) (sym (ap text_by info-of.1))
