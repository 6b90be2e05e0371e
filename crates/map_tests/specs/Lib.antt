pub mod RoomTests
