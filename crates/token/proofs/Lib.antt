-- The laws that the program's slices need.
mod RoomLaws
