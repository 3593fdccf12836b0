-- Document 01's refusals, "Turned down, by operation". Assumes nothing.
use Rattle.std.specs.Prelude.{ℕ}

-- body length too great; in writing, body too long
abbrev pub too_long : ℕ
too_long = 1

-- field or count too long for what is left, or bytes left over
abbrev pub truncated : ℕ
truncated = 2

-- unknown byte
abbrev pub unknown_byte : ℕ
unknown_byte = 3

-- not UTF-8
abbrev pub bad_text : ℕ
bad_text = 4

-- key
abbrev pub bad_session : ℕ
bad_session = 5

-- stamp
abbrev pub bad_timestamp : ℕ
bad_timestamp = 6

-- marks
abbrev pub bad_marks : ℕ
bad_marks = 7

-- a field that reading would refuse
abbrev pub unreadable : ℕ
unreadable = 8

-- output area too short
abbrev pub no_room : ℕ
no_room = 9

-- promoted
abbrev pub promoted : ℕ
promoted = 10

-- version not 1 or 2
abbrev pub bad_version : ℕ
bad_version = 11

-- kinds listed
abbrev pub kinds_listed : ℕ
kinds_listed = 12

-- application records
abbrev pub app_records : ℕ
app_records = 13

-- unbound
abbrev pub unbound : ℕ
unbound = 14

-- while changes are held
abbrev pub changes_held : ℕ
changes_held = 15

-- nothing held and no Reset in front
abbrev pub no_reset : ℕ
no_reset = 16

-- held messages above 4,294,967,296 bytes
abbrev pub too_many_bytes : ℕ
too_many_bytes = 17

-- the held changes and this batch's outgrow the hold area
abbrev pub hold_area_full : ℕ
hold_area_full = 18

-- a frame of another kind
abbrev pub other_frame : ℕ
other_frame = 19

-- no free session place for a new key
abbrev pub no_session_place : ℕ
no_session_place = 20

-- no free handle place for a new handle
abbrev pub no_handle_place : ℕ
no_handle_place = 21

-- other connection, or promoted
abbrev pub other_connection : ℕ
other_connection = 22

-- unchecked
abbrev pub unchecked : ℕ
unchecked = 23

-- commit numbers would pass 2^64 - 1
abbrev pub numbers_past : ℕ
numbers_past = 24

-- a lent area or a state handed in breaks the rules of docs/AREAS.md, or the session isn't stored
abbrev pub rules_broken : ℕ
rules_broken = 25

-- not just one whole frame; of a line: bad digit, odd, empty or long, or not just one whole frame
abbrev pub not_one_frame : ℕ
not_one_frame = 26

-- a long stamp, which version 1 doesn't take
abbrev pub long_stamp : ℕ
long_stamp = 32
