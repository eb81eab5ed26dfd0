-- An opening, step by step.
use Rattle.std.proofs.Common.{◌≡◌, ◌<◌, ◌-◌, ◌++◌, ◌∙◌, ℕ, zero, suc, List, [], ◌∷◌, Option, Some, None, Result, Ok, Err, get_or, length, take, refl, ap, sym, arith}
use Rattle.std.specs.List.{slice_get}
use Rattle.std.proofs.lemmas.List.{length-append, take-append-le, take_all}
use Rattle.std.proofs.lemmas.Option.{none-some, slice_get-get_or}
use Rattle.hurd_creds.specs.declared.errno.Errno.{Errno}
use Rattle.hurd_trans_iface.specs.Meaning.{Meaning}
use Rattle.hurd_machine.specs.Calls.{Call, Reply, start_call}
use Rattle.hurd_machine.specs.declared.call.Call.TheVariants.{Plain}
use Rattle.hurd_machine.specs.declared.call.PlainCall.TheVariants.{DirLookup, IoReauthenticate, PortDeallocate}
use Rattle.hurd_client.specs.declared.opening.OpenHow.{OpenHow}
use Rattle.hurd_client.specs.Programs.{Prog, after_reply, gives, calls, asks, tried, bind, on_ok, made, closing, port_of}
use Rattle.hurd_client.specs.Looking.{Opener, looked_of, arrived, begun, retried, followed, look, most_retries, open_node, start_at, start_with}
use Rattle.hurd_client.specs.Openings.{IsNext, opening_after, opening_of, releasing, start_end}
use Rattle.hurd_client.specs.declared.answers.NextLookup.{NextLookup}
use Rattle.hurd_client.specs.declared.opening.Next.TheVariants as next
use Rattle.hurd_client.specs.declared.opening.NextCall.TheVariants as call
use Rattle.hurd_client.specs.declared.opening.Opening.{Opening}
use Rattle.hurd_client.specs.declared.opening.Step.{Step}
use Rattle.hurd_client.specs.declared.opening.Step.TheVariants.{LooksUp, Reauthenticates, Ends}
use Rattle.hurd_client.specs.declared.opening.Target.{Target}
use Rattle.hurd_client.specs.declared.opening.Way.{Way}

releasing_more : (held : List ℕ) (port : ℕ) (p : Prog ℕ) → releasing (held ++ port ∷ []) p ≡ releasing held (closing port p)
unfolding releasing
releasing_more [] port p = refl
releasing_more (q ∷ held) port p = ap (closing q) (releasing_more held port p)

-- one port more is held: it is given up first
pub holding : {new : List ℕ} (held : List ℕ) (port : ℕ) (p : Prog ℕ) → new ≡ held ++ port ∷ [] → releasing new p ≡ releasing held (closing port p)
holding held port p same = rw same (releasing_more held port p)

-- a program that makes a call makes it too if ports are given up after it
releasing_calls : (held : List ℕ) (c : Call) (k : Reply → Prog ℕ) → releasing held (calls c k) ≡ calls c (λ r. releasing held (k r))
unfolding releasing tried
releasing_calls [] c k = refl
releasing_calls (port ∷ held) c k = ap (closing port) (releasing_calls held c k)

-- and so does one that asks for a server
pub releasing_asks : (held : List ℕ) (words : List (List ℕ)) (k : Option Meaning → Prog ℕ) → releasing held (asks words k) ≡ asks words (λ server. releasing held (k server))
unfolding releasing tried
releasing_asks [] words k = refl
releasing_asks (port ∷ held) words k = ap (closing port) (releasing_asks held words k)

-- no port is given up
pub releasing_none : (p : Prog ℕ) → releasing [] p ≡ p
unfolding releasing
releasing_none p = refl

look_calls : (left : ℕ) (how : OpenHow) (port : ℕ) (name : List ℕ)
    → look left how port name ≡ calls (Plain (DirLookup port name how.flags how.mode)) (λ r. on_ok (arrived (retried left how) (begun left how port name)) (looked_of r))
unfolding look bind made tried
look_calls zero how port name = refl
look_calls (suc left) how port name = refl

-- a lookup
pub looks_up : (held : List ℕ) (left : ℕ) (how : OpenHow) (port : ℕ) (name : List ℕ)
    → releasing held (look left how port name)
    ≡ calls (Plain (DirLookup port name how.flags how.mode)) (λ r. releasing held (on_ok (arrived (retried left how) (begun left how port name)) (looked_of r)))
looks_up held left how port name = ap (releasing held) (look_calls left how port name) ∙ releasing_calls held _ _

-- a reauthentication
pub reauthenticates : (held : List ℕ) (opener : Opener) (port : ℕ) (name : List ℕ)
    → releasing held (bind (made (Plain (IoReauthenticate port)) port_of) (λ own. closing own (opener own name)))
    ≡ calls (Plain (IoReauthenticate port)) (λ r. releasing held (on_ok (λ own. closing own (opener own name)) (port_of r)))
unfolding bind made tried
reauthenticates held opener port name = releasing_calls held _ _

-- a port that is given up at the end
pub gives_up : (held : List ℕ) (port : ℕ) (end : Result ℕ Errno)
    → releasing (held ++ port ∷ []) (gives end) ≡ calls (Plain (PortDeallocate port)) (λ r. releasing held (gives end))
unfolding bind made tried
gives_up held port end = releasing_more held port (gives end) ∙ releasing_calls held _ _

-- a translator that is started, or given up, and then the opening goes on
pub starts : (o : Opening) (server : Option Meaning) → opening_after o (start_with server) ≡ calls (start_call server) (λ r. opening_after o (gives (start_end server r)))
unfolding bind made tried
starts o (Some server) = releasing_calls o.way.held.items _ _
starts o None = releasing_calls o.way.held.items _ _

-- a path that is opened: no port is held yet
pub first : (held : List ℕ) (directory port : ℕ) (path : List ℕ) (how : OpenHow) → held ≡ [] → port ≡ start_at directory path
    → releasing held (look most_retries how port path) ≡ open_node directory path how
unfolding releasing
first held directory port path how none start = rw (none, start) refl

-- an opening goes on at once
pub goes_on : (o : Opening) (u : Unit {0}) → opening_of o ≡ opening_after o (gives (Ok u))
unfolding bind tried
goes_on o u = refl

-- or ends
pub ends : (o : Opening) (way : Way) (e : Errno) → way ≡ o.way → opening_of (record { way = way; step = Ends (Err e) }) ≡ opening_after o (gives (Err e))
unfolding bind tried
ends o way e same = rw same refl

one_less : (n : ℕ) → suc n - 1 ≡ n
one_less n = omega arith

-- a start that is followed
pub begun_asks : (held : List ℕ) (how : OpenHow) (left port : ℕ) (name : List ℕ) (words : List (List ℕ)) → 0 < left
    → asks words (λ server. releasing held (bind (start_with server) (λ u. look (left - 1) how port name))) ≡ releasing held (begun left how port name words)
begun_asks held how zero port name words some = absurd (omega arith)
begun_asks held how (suc left) port name words some = rw one_less (sym (releasing_asks held words _))

-- a retry that is followed
pub retried_follows : (held : List ℕ) (how : OpenHow) (left : ℕ) (retry : NextLookup) → 0 < left → releasing held (followed (look (left - 1) how) retry) ≡ releasing held (retried left how retry)
retried_follows held how zero retry some = absurd (omega arith)
retried_follows held how (suc left) retry some = rw one_less refl

-- the last of some ports

last_at : (ports : List ℕ) (n port : ℕ) → length ports ≡ suc n → slice_get ports n ≡ Some port → (front : List ℕ) × (ports ≡ front ++ port ∷ [])
last_at [] n port count last = absurd (omega (arith, count))
last_at (p ∷ []) zero port count last = ([], cc)
last_at (p ∷ []) (suc n) port count last = absurd (omega (arith, count))
last_at (p ∷ q ∷ ports) zero port count last = absurd (omega (arith, count))
last_at (p ∷ q ∷ ports) (suc n) port count last =
    let rest = last_at (q ∷ ports) n port (omega (arith, count)) last in
    (p ∷ rest.0, ap (λ (ps : List ℕ). p ∷ ps) rest.1)

pub last_of : (ports : List ℕ) (port : ℕ) → Some port ≡ slice_get ports (length ports - 1) → (front : List ℕ) × (ports ≡ front ++ port ∷ [])
last_of [] port last = absurd (cc)
last_of (p ∷ ports) port last = last_at (p ∷ ports) (length (p ∷ ports) - 1) port (omega arith) (sym last)

pub none_last : (ports : List ℕ) → None ≡ slice_get ports (length ports - 1) → ports ≡ []
none_last [] none = refl
none_last (p ∷ ports) none = absurd (none-some _ (none ∙ slice_get-get_or (p ∷ ports) (length (p ∷ ports) - 1) 0 (omega arith)))

-- the step that comes next, and its call

module _ (w : Way) (s : Step) where
  pub next_lookup : (target : Target) (path : List ℕ) → s ≡ LooksUp target → path ≡ target.name → IsNext (record { way = w; step = s }) (next.Call (call.DirLookup target.port path w.how))
  next_lookup target path is same = rw (is, same) ((_, looks_up w.held.items w.left w.how target.port target.name), omega arith)

  pub next_reauthenticate : (target : Target) → s ≡ Reauthenticates target → IsNext (record { way = w; step = s }) (next.Call (call.IoReauthenticate target.port))
  next_reauthenticate target is = rw is ((_, reauthenticates w.held.items (look w.left w.how) target.port target.name), omega arith)

  pub next_deallocate : (end : Result ℕ Errno) (front : List ℕ) (port : ℕ) → s ≡ Ends end → w.held.items ≡ front ++ port ∷ [] → IsNext (record { way = w; step = s }) (next.Call (call.PortDeallocate port))
  next_deallocate end front port is last =
      let some : 0 < length w.held.items = rw last (omega (arith, length-append front (port ∷ []))) in
      rw is ((_, ap (λ (held : List ℕ). releasing held (gives end)) last ∙ gives_up front port end), omega (arith, some))

  pub next_ends : (end : Result ℕ Errno) → s ≡ Ends end → w.held.items ≡ [] → IsNext (record { way = w; step = s }) (next.Ends end)
  unfolding releasing
  next_ends end is none = rw (is, none) refl

module _ (w : Way) (s : Step) (r : Reply) where
  pub after_lookup : (target : Target) → s ≡ LooksUp target
      → after_reply (opening_of (record { way = w; step = s })) r ≡ releasing w.held.items (on_ok (arrived (retried w.left w.how) (begun w.left w.how target.port target.name)) (looked_of r))
  after_lookup target is = rw is (ap (λ (p : Prog ℕ). after_reply p r) (looks_up w.held.items w.left w.how target.port target.name))

  pub after_reauthenticate : (target : Target) → s ≡ Reauthenticates target
      → after_reply (opening_of (record { way = w; step = s })) r ≡ releasing w.held.items (on_ok (λ own. closing own (look w.left w.how own target.name)) (port_of r))
  after_reauthenticate target is = rw is (ap (λ (p : Prog ℕ). after_reply p r) (reauthenticates w.held.items (look w.left w.how) target.port target.name))

front_of : (front : List ℕ) (port : ℕ) → take (length (front ++ port ∷ []) - 1) (front ++ port ∷ []) ≡ front
front_of front port =
    let count : length (front ++ port ∷ []) - 1 ≡ length front = omega (arith, length-append front (port ∷ [])) in
    ap (λ (n : ℕ). take n (front ++ port ∷ [])) count ∙ (take-append-le (length front) front (port ∷ []) (omega arith) ∙ take_all (length front) front (omega arith))

one_given_up : (held : List ℕ) (end : Result ℕ Errno) (r : Reply) → releasing (take (length held - 1) held) (gives end) ≡ after_reply (releasing held (gives end)) r
unfolding releasing
one_given_up [] end r = refl
one_given_up (p ∷ ports) end r =
    let held = p ∷ ports in
    let last = last_of held (get_or held (length held - 1) 0) (sym (slice_get-get_or held (length held - 1) 0 (omega arith))) in
    let front : take (length held - 1) held ≡ last.0 = ap (λ (ps : List ℕ). take (length ps - 1) ps) last.1 ∙ front_of last.0 (get_or held (length held - 1) 0) in
    rw front (sym (ap (λ (ps : List ℕ). after_reply (releasing ps (gives end)) r) last.1 ∙ ap (λ (q : Prog ℕ). after_reply q r) (gives_up last.0 _ end)))

-- one port less is held
pub after_deallocate : (w : Way) (s : Step) (r : Reply) (end : Result ℕ Errno) (left : List ℕ) → s ≡ Ends end → left ≡ take (length w.held.items - 1) w.held.items
    → releasing left (gives end) ≡ after_reply (opening_of (record { way = w; step = s })) r
after_deallocate w s r end left is same = rw (is, same) (one_given_up w.held.items end r)
