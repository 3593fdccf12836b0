-- What the code's values stand for. Assumes nothing.
use Rattle.std.specs.Prelude.{ℕ, length, Result, Ok, Err}
use Rattle.base_refusals.specs.Numbers.{number_of}
use Rattle.base_refusals.specs.declared.Refusal.{Refusal}
use Rattle.model_times.specs.Times as model
use Rattle.times_stamp.specs.declared.Time.{Time}
use Rattle.times_stamp.specs.declared.Moment.{Moment}

-- what a stamp says
abbrev pub time_of : Time → model.Time
time_of t =
    record {
      year = t.year;
      month = t.month;
      day = t.day;
      hour = t.hour;
      minute = t.minute;
      second = t.second;
      milli = t.milli;
      micro = t.micro;
      nano = t.nano;
      pico = t.pico;
    }

-- what reading a stamp answered
abbrev pub read_of : Result Moment Refusal → model.Read
read_of (Ok m) = model.Read.number m.millis m.picos
read_of (Err e) = model.Read.refused (number_of e)

-- what writing a number tells: the text's length, or the refusal
pub data Told : Type 0 where
  length_is : ℕ → Told
  turned_down : ℕ → Told

abbrev pub told : model.Written → Told
told (model.Written.text s) = length_is (length s)
told (model.Written.turned_down n) = turned_down n

abbrev pub told_of : Result ℕ Refusal → Told
told_of (Ok n) = length_is n
told_of (Err e) = turned_down (number_of e)
