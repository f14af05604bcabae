-- The fault table: the number and the layer of every reason, and what is printed of a fault.
use Rattle.std.specs.Prelude.{ℕ, cond, List, ◌++◌, codes, decimal, nat_le}
use Rattle.fault.specs.declared.Fault.{Fault}
use Rattle.fault.specs.declared.Layer.{Layer}
use Rattle.fault.specs.declared.Layer.TheVariants.{Sheet, Text, Cabinet, Search}
use Rattle.fault.specs.declared.Reason.{Reason}
use Rattle.fault.specs.declared.Reason.TheVariants.{BadMark, CutShort, BadCount, BadEntry, NoWayOut, LeftOver, TextTooLong, StrayByte, NotDerivable, UnknownName, TooManyParts, TooManyLetters, NoSuchCard, CardTaken, NoSuchState, NotThatStep, OnlyWayOut, BarsUsedUp, NothingToSeek, WorkTooShort, OutTooShort}

abbrev pub number_of : Reason → ℕ
number_of BadMark = 1
number_of CutShort = 2
number_of BadCount = 3
number_of BadEntry = 4
number_of NoWayOut = 5
number_of LeftOver = 6
number_of TextTooLong = 7
number_of StrayByte = 8
number_of NotDerivable = 9
number_of UnknownName = 10
number_of TooManyParts = 11
number_of TooManyLetters = 12
number_of NoSuchCard = 13
number_of CardTaken = 14
number_of NoSuchState = 15
number_of NotThatStep = 16
number_of OnlyWayOut = 17
number_of BarsUsedUp = 18
number_of NothingToSeek = 19
number_of WorkTooShort = 20
number_of OutTooShort = 21

-- the layer that refuses
abbrev pub layer_of : Reason → Layer
layer_of r = cond (nat_le (number_of r) 6) Sheet (cond (nat_le (number_of r) 12) Text (cond (nat_le 20 (number_of r)) Search Cabinet))

abbrev pub layer_number : Layer → ℕ
layer_number Sheet = 1
layer_number Text = 2
layer_number Cabinet = 3
layer_number Search = 4

-- what is wrong, in words for an operator
abbrev pub words_of : Reason → List ℕ
words_of BadMark = codes "this is no mode sheet of version 1"
words_of CutShort = codes "the bytes end inside a field"
words_of BadCount = codes "a sheet has 1 to 1024 states and at most 32 names"
words_of BadEntry = codes "this name, label or step breaks its rule"
words_of NoWayOut = codes "this state has no step out"
words_of LeftOver = codes "bytes follow the last step"
words_of TextTooLong = codes "a rule has at most 255 bytes"
words_of StrayByte = codes "no word starts with this byte"
words_of NotDerivable = codes "no rule goes on like this"
words_of UnknownName = codes "the machine does not know this name"
words_of TooManyParts = codes "a rule has at most 64 parts"
words_of TooManyLetters = codes "an expression has at most 31 letters"
words_of NoSuchCard = codes "there is no card with a rule here"
words_of CardTaken = codes "this card holds a rule already"
words_of NoSuchState = codes "the machine has no such state"
words_of NotThatStep = codes "there is no such step to take away or give back"
words_of OnlyWayOut = codes "this step is the only way out of its state"
words_of BarsUsedUp = codes "64 steps are barred already"
words_of NothingToSeek = codes "this card's rule seeks no path"
words_of WorkTooShort = codes "the work list is too short for this rule"
words_of OutTooShort = codes "the out list is too short for this rule"

-- a fault's line: fault NUMBER layer LAYER place PLACE: what is wrong
abbrev pub line_of : Fault → List ℕ
line_of f =
    codes "fault " ++ (decimal (number_of f.reason) ++ (codes " layer " ++ (decimal (layer_number (layer_of f.reason)) ++ (codes " place " ++ (decimal f.place ++ (codes ": " ++ words_of f.reason))))))
