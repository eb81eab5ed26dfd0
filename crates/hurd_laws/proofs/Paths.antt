-- What is at a path stays there: step by step, and entry by entry.
use Rattle.std.proofs.Common.{◌≡◌, ◌∙◌, ℕ, Bool, true, false, List, [], ◌∷◌, Some, refl, sym, ap, subst, inl, inr}
use Rattle.hurd_trans_iface.specs.Answers.{entry_of}
use Rattle.hurd_machine.proofs.Common.{BodyOf, Header, Name, Sound, World, body_at, get, header_at, home_at}
use Rattle.hurd_machine.specs.World.{boot_root}
use Rattle.hurd_machine.proofs.Coherence.{entry_lists, header_old}
use Rattle.hurd_machine.proofs.Nodes.{body_in, node_of_header}
use Rattle.hurd_laws.specs.Step.{after, touches}
use Rattle.hurd_laws.specs.Runs.{TaskCall, run}
use Rattle.hurd_laws.specs.Integrity.{TakesEntry}
use Rattle.hurd_laws.specs.Paths.{Leads, SparesPath, PathStays}
use Rattle.hurd_laws.proofs.Assembled.{stays_sound}
use Rattle.hurd_laws.proofs.Integrity.{integrity, untouched}
use Rattle.hurd_laws.proofs.SparedRun.{no_task}

-- the node is there
abbrev IsThere : World → Name → Type 0
IsThere w n = (h : Header) × (header_at w n ≡ Some h)

-- what an entry of a directory names is there: it is of the directory's server
entry_there : (w : World) → Sound w → (d : Name) → IsThere w d → (name : List ℕ) (n : Name) → entry_of name (body_at w d) ≡ Some n → IsThere w n
entry_there w s d there name n at =
    let home = s.coherent.housing.homes d there.0 there.1 in
    let kin : home_at w n ≡ home_at w d = s.coherent.tree.kin d n (entry_lists name (body_at w d) n at) in
    s.coherent.housing.housed n home.0 (kin ∙ home.2)

end_there : (w : World) → Sound w → (names : List (List ℕ)) (d n : Name) → IsThere w d → Leads w d names n → IsThere w n
end_there w s [] d n there leads = subst (IsThere w) leads there
end_there w s (name ∷ names) d n there (m, at, rest) = end_there w s names m n (entry_there w s d there name m at) rest

-- one call
module _ (S : ℕ → Bool) (w : World) (m : TaskCall) (s : Sound w) where
  abbrev x : World
  x = after w m.task m.call

  entry_kept : (d : Name) → IsThere w d → IsThere x d → (name : List ℕ) (n : Name) → entry_of name (body_at w d) ≡ Some n → (S m.task ≡ true → TakesEntry S w d name n → ⊥)
      → (S m.task ≡ false → touches w m.task m.call (BodyOf d) → ⊥) → entry_of name (body_at x d) ≡ Some n
  entry_kept d there still name n at own other = by (S m.task) refl
    where
      by : (b : Bool) → S m.task ≡ b → entry_of name (body_at x d) ≡ Some n
      by true ours =
          let z = node_of_header (get x.nodes d) still.0 still.1 in
          let body : body_at x d ≡ Some z.0.body = ap body_in z.1 in
          ap (entry_of name) body ∙ ((integrity w m.task m.call s).entries S d name there.0 z.0.body ours there.1 body).stays n at (own ours)
      by false theirs =
          let z = node_of_header (get x.nodes d) still.0 still.1 in
          elim (untouched w m.task m.call (BodyOf d) s (header_old s.coherent d there.0 there.1) (other theirs) (no_task (BodyOf d) m.task tt)) [
            | inl same ↦ let e : body_at x d ≡ body_at w d = cc (same) in ap (entry_of name) e ∙ at
            | inr lost ↦ let gone = lost.0 in absurd (cc (gone, ap body_in z.1))
          ]

  path_kept : (names : List (List ℕ)) (d n : Name) → IsThere w d → IsThere x d → SparesPath S w m.task m.call d names → Leads w d names n → Leads x d names n
  path_kept [] d n there still spared leads = leads
  path_kept (name ∷ names) d n there still spared (q, at, rest) =
      let l = spared q at in
      let now = entry_kept d there still name q at l.0 l.1 in
      (q, now, path_kept names q n (entry_there w s d there name q at) (entry_there x (stays_sound w m.task m.call s) d still name q now) l.2 rest)

pub path_stays : PathStays
path_stays S w [] names n s spared leads = (leads, end_there w s names boot_root n s.coherent.tree.root leads)
path_stays S w (m ∷ ms) names n s spared leads =
    let x = after w m.task m.call in
    let sx = stays_sound w m.task m.call s in
    path_stays S x ms names n sx spared.1 (path_kept S w m s names boot_root n s.coherent.tree.root sx.coherent.tree.root spared.0 leads)
