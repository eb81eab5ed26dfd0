-- Replies of reading and writing, and what is told of a node, have no names.
use Rattle.std.proofs.Common.{◌≡◌, ℕ, Bool, List, Result, Ok, is_some, refl, ap, ◌∙◌}
use Rattle.std.specs.Prelude.{ℤ, length, min}
use Rattle.hurd_creds.specs.Stats.{stat_of}
use Rattle.hurd_machine.proofs.Common.{Errno, Question, READ, Reply, WRITE, World, active_at, asked_at, bare, most_read, writing}
use Rattle.hurd_trans_iface.specs.Behaviour.{reading}
use Rattle.hurd_machine.specs.declared.call.Reply.TheVariants.{Count, Data}
use Rattle.hurd_machine.specs.World.{readers_at, writers_at}
use Rattle.hurd_machine.specs.Renamed.{OtherNames, renamed}
use Rattle.hurd_machine.proofs.RenamedAsks.{asked_at-renamed, reading-renamed, writing-renamed}
use Rattle.hurd_machine.proofs.RenamedHandles.{handle_asks-renamed, handle_renamed, named_renamed, port_asks-renamed}
use Rattle.hurd_machine.proofs.RenamedNodes.{active_at-renamed, is_some-mapped}
use Rattle.hurd_machine.proofs.RenamedPlans.{answer_renamed, answered-given, answered-renamed, first-given, first-renamed, first-told, given-renamed}
use Rattle.hurd_machine.proofs.RenamedServers.{readers_at-renamed, stream_at-renamed, writers_at-renamed}
use Rattle.hurd_io.specs.Io.{io_at, plan_io, plan_read, plan_stat, plan_write, read_asks, reads, stat_asks, write_asks, write_cursor, writes}
use Rattle.hurd_laws.proofs.KeptTypes.{Third}

-- where a read or a write begins
abbrev pub IoAt : Type 0
IoAt = Third reads

module _ (f : OtherNames) where
  -- where a call begins: its node and its open have other names
  abbrev pub io_at_renamed : IoAt → IoAt
  io_at_renamed a = record a { node = f.to a.node; open_name = f.to a.open_name }

  module _ (w : World) where
    -- of a read or a write, where the server answers the same
    pub io_told : {T : Type 0} {other : Result IoAt Errno} (asks : Result IoAt Errno) (q r : IoAt → Question T) (reply : T → Reply) (count : T → ℕ) → other ≡ answer_renamed io_at_renamed asks
        → ((a : IoAt) → asked_at (r (io_at_renamed a)) (f.to a.node) (renamed f w) ≡ asked_at (q a) a.node w) → (plan_io (renamed f w) other r reply count).reply ≡ (plan_io w asks q reply count).reply
    io_told asks q r reply count is same = answered-renamed io_at_renamed _ _ _ is (λ a. answered-given _ _ (same a) (λ d. refl))

    pub read_alike : (amount : ℕ) (a : IoAt) → asked_at (reads amount (renamed f w) (io_at_renamed a)) (f.to a.node) (renamed f w) ≡ asked_at (reads amount w a) a.node w
    read_alike amount a =
        ap (λ (writers : ℕ). asked_at (reading a.at (min amount most_read) writers) (f.to a.node) (renamed f w)) (writers_at-renamed f w a.node)
        ∙ asked_at-renamed f w (reads amount w a) (reading-renamed f a.at (min amount most_read) (writers_at w a.node)) a.node

    pub write_alike : (bytes : List ℕ) (a : IoAt) → asked_at (writes bytes (renamed f w) (io_at_renamed a)) (f.to a.node) (renamed f w) ≡ asked_at (writes bytes w a) a.node w
    write_alike bytes a =
        ap (λ (readers : ℕ). asked_at (writing a.at bytes readers) (f.to a.node) (renamed f w)) (readers_at-renamed f w a.node)
        ∙ asked_at-renamed f w (writes bytes w a) (writing-renamed f a.at bytes (readers_at w a.node)) a.node

    module _ (t p : ℕ) where
      pub read_asks-renamed : (offset : ℤ) → read_asks (renamed f w) t p offset ≡ answer_renamed io_at_renamed (read_asks w t p offset)
      read_asks-renamed offset = first-renamed (handle_renamed f) io_at_renamed _ _ _ (handle_asks-renamed f w t p READ) (λ a.
          given-renamed io_at_renamed _ _ refl (first-given io_at_renamed _ _ refl (λ o.
          ap (λ (stream : Bool). Ok (io_at_renamed (io_at a stream a.opened.cursor o))) (stream_at-renamed f w a.node))))

      pub write_asks-renamed : (offset : ℤ) → write_asks (renamed f w) t p offset ≡ answer_renamed io_at_renamed (write_asks w t p offset)
      write_asks-renamed offset = first-renamed (handle_renamed f) io_at_renamed _ _ _ (handle_asks-renamed f w t p WRITE) (λ a.
          first-given io_at_renamed _ _ refl (λ o.
          ap (λ (stream : Bool). Ok (io_at_renamed (io_at a stream (write_cursor a) o))) (stream_at-renamed f w a.node)))

      pub stat_asks-renamed : stat_asks (renamed f w) t p ≡ stat_asks w t p
      stat_asks-renamed = first-told (named_renamed f) _ _ _ (port_asks-renamed f w t p) (λ n.
          ap (λ (active : Bool). Ok (let s = stat_of (bare n.header) in record s { active = active })) (ap is_some (active_at-renamed f w n.right.node) ∙ is_some-mapped f.to (active_at w n.right.node)))

module _ (f : OtherNames) (w : World) (t : ℕ) where
  pub read_told : (p amount : ℕ) (offset : ℤ) → (plan_read (renamed f w) t p amount offset).reply ≡ (plan_read w t p amount offset).reply
  read_told p amount offset = io_told f w (read_asks w t p offset) (reads amount w) (reads amount (renamed f w)) Data length (read_asks-renamed f w t p offset) (read_alike f w amount)

  pub write_told : (p : ℕ) (bytes : List ℕ) (offset : ℤ) → (plan_write (renamed f w) t p bytes offset).reply ≡ (plan_write w t p bytes offset).reply
  write_told p bytes offset = io_told f w (write_asks w t p offset) (writes bytes w) (writes bytes (renamed f w)) Count (λ n. n) (write_asks-renamed f w t p offset) (write_alike f w bytes)

  pub stat_told : (p : ℕ) → (plan_stat (renamed f w) t p).reply ≡ (plan_stat w t p).reply
  stat_told p = answered-given _ _ (stat_asks-renamed f w t p) (λ s. refl)
