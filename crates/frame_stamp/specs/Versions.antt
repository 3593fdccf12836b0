-- A connection's version as a byte, and one that is handed in as a number: one that there is, or 11. Assumes nothing.
use Rattle.std.specs.Prelude.{ℕ, cond, Result, Ok, Err, eqb}
use Rattle.model_text.specs.Version.{first, latest, is_version}
use Rattle.base_refusals.specs.declared.Refusal.{Refusal}
use Rattle.base_refusals.specs.Numbers.{number_of}
use Rattle.frame_stamp.specs.declared.protocol.Protocol.{Protocol}

-- a flag: every byte but 0 is the latest version
abbrev pub version_of : ℕ → ℕ
version_of byte = cond (eqb byte 0) first latest

pub data Spoken : Type 0 where
  speaks : ℕ → Spoken
  refused : ℕ → Spoken

abbrev pub protocol : ℕ → Spoken
protocol version = cond (is_version version) (speaks version) (refused 11)

abbrev pub protocol_of : Result Protocol Refusal → Spoken
protocol_of (Ok p) = speaks p.version
protocol_of (Err e) = refused (number_of e)
