-- What ports name and have open where things have other names.
use Rattle.std.proofs.Common.{◌≡◌, ℕ, Result, refl}
use Rattle.hurd_machine.proofs.Common.{EDIED, Errno, Header, IoRight, Name, World, header_at, io_right_of, ports_of}
use Rattle.hurd_machine.specs.declared.handle.Handle.{Handle}
use Rattle.hurd_machine.specs.Handle.{Named, both_asks, handle_asks, port_asks}
use Rattle.hurd_machine.specs.Plan.{first, on}
use Rattle.hurd_machine.specs.Renamed.{OtherNames, header_renamed, io_renamed, open_renamed, renamed}
use Rattle.hurd_machine.proofs.RenamedNodes.{header_at-renamed}
use Rattle.hurd_machine.proofs.RenamedPlans.{answer_renamed, first-renamed, given-renamed, on-renamed}
use Rattle.hurd_machine.proofs.RenamedServers.{open_at-renamed}
use Rattle.hurd_machine.proofs.RenamedTasks.{io_right_of-renamed}

module _ (f : OtherNames) where
  -- a port on a node with other names
  abbrev pub named_renamed : Named → Named
  named_renamed n = record { right = io_renamed f.to n.right; header = header_renamed f.to n.header }

  -- what a port has open with other names: its kind and size are the same
  abbrev pub handle_renamed : Handle → Handle
  handle_renamed a = record a { node = f.to a.node; open_name = f.to a.open_name; opened = open_renamed f.to a.opened }

  -- two ports
  abbrev pub both_renamed : Named × Named → Named × Named
  both_renamed p = (named_renamed p.0, named_renamed p.1)

  module _ (w : World) where
    -- what follows from the header of a node
    pub on_header-renamed : {C D : Type 0} (h : C → D) (e : Errno) (n : Name) (k : Header → Result C Errno) (l : Header → Result D Errno) → ((x : Header) → l (header_renamed f.to x) ≡ answer_renamed h (k x))
        → on e (header_at (renamed f w) (f.to n)) l ≡ answer_renamed h (on e (header_at w n) k)
    on_header-renamed h e n k l alike = on-renamed (header_renamed f.to) h e (header_at w n) k l (header_at-renamed f w n) alike

    -- and from the right that a port is to use a node
    pub on_right-renamed : {C D : Type 0} (h : C → D) (t p : ℕ) (k : IoRight → Result C Errno) (l : IoRight → Result D Errno) → ((r : IoRight) → l (io_renamed f.to r) ≡ answer_renamed h (k r))
        → first (io_right_of (ports_of (renamed f w)) t p) l ≡ answer_renamed h (first (io_right_of (ports_of w) t p) k)
    on_right-renamed h t p k l alike = first-renamed (io_renamed f.to) h _ k l (io_right_of-renamed f w t p) alike

    pub port_asks-renamed : (t p : ℕ) → port_asks (renamed f w) t p ≡ answer_renamed named_renamed (port_asks w t p)
    port_asks-renamed t p = on_right-renamed named_renamed t p _ _ (λ r. on_header-renamed named_renamed EDIED r.node _ _ (λ h. refl))

    pub both_asks-renamed : (t p q : ℕ) → both_asks (renamed f w) t p q ≡ answer_renamed both_renamed (both_asks w t p q)
    both_asks-renamed t p q =
        on_right-renamed both_renamed t p _ _ (λ r. on_right-renamed both_renamed t q _ _ (λ s.
        on_header-renamed both_renamed EDIED r.node _ _ (λ h. on_header-renamed both_renamed EDIED s.node _ _ (λ k. refl))))

    pub handle_asks-renamed : (t p mode : ℕ) → handle_asks (renamed f w) t p mode ≡ answer_renamed handle_renamed (handle_asks w t p mode)
    handle_asks-renamed t p mode = on_right-renamed handle_renamed t p _ _ (λ r.
        on-renamed (open_renamed f.to) handle_renamed _ _ _ _ (open_at-renamed f w r.open_name) (λ o.
        given-renamed handle_renamed _ _ refl (on_header-renamed handle_renamed EDIED r.node _ _ (λ h. refl))))
